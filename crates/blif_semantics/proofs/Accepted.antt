-- Which nets of names are read: those that nothing refuses.
use Rattle.std.proofs.Common.{◌≡◌, ◌+◌, Bool, true, false, ◌==◌, cond, length, Option, Some, None, Result, Ok, Err, refl, ap, sym, ◌∙◌, true≢false}
use Rattle.semantics.specs.Net.{NetValue, input_count, signal_names, name_of}
use Rattle.semantics.specs.Refusals.{first_doubled, first_ungrounded, first_limit}
use Rattle.blif_semantics.specs.Reading.{Refusal, doubled, no_output, undriven, cycle, limit, NamedNet, names_of, first_undriven_name, numbered, unless_refused, sized, grounded, driven, with_output}
use Rattle.blif_semantics.specs.Reading.{single}

-- nothing refuses the net of names
pub record IsAccepted (d : NamedNet) : Type 0 where
  pub undoubled : first_doubled (names_of d) ≡ None
  pub some_output : (length d.outputs == 0) ≡ false
  pub driven : first_undriven_name d ≡ None
  pub grounded : first_ungrounded (input_count (numbered d)) (numbered d).tables ≡ None
  pub small : first_limit (numbered d) ≡ None

value_or : Result NetValue Refusal → NetValue → NetValue
value_or (Ok N) M = N
value_or (Err r) M = M

is_read : Result NetValue Refusal → Bool
is_read (Ok N) = true
is_read (Err r) = false

refused-read : (r : Refusal) (N : NetValue) → Err r ≡ Ok N → ⊥
unfolding is_read
refused-read r N e = true≢false (sym (ap is_read e))

pub read_parts : {X : Type 0} (o : Option X) (refuse : X → Refusal) (rest : Result NetValue Refusal) (N : NetValue) → unless_refused o refuse rest ≡ Ok N → (o ≡ None) × (rest ≡ Ok N)
read_parts None refuse rest N e = (refl, e)
read_parts (Some x) refuse rest N e = absurd (refused-read (refuse x) N e)

pub read_parts-if : (refused : Bool) (r : Refusal) (rest : Result NetValue Refusal) (N : NetValue) → cond refused (Err r) rest ≡ Ok N → (refused ≡ false) × (rest ≡ Ok N)
read_parts-if false r rest N e = (refl, e)
read_parts-if true r rest N e = absurd (refused-read r N e)

pub same_Ok : (N M : NetValue) → ◌≡◌ {A = Result NetValue Refusal} (Ok N) (Ok M) → N ≡ M
unfolding value_or
same_Ok N M e = ap (λ r. value_or r N) e

-- what is read is the net with its signals numbered
pub record IsReadAs (d : NamedNet) (N : NetValue) : Type 0 where
  pub accepted : IsAccepted d
  pub is : N ≡ numbered d

pub accepted : (d : NamedNet) (N : NetValue) → single d ≡ Ok N → IsReadAs d N
accepted d N e =
    let names = read_parts (first_doubled (names_of d)) doubled (with_output d) N e in
    let outputs = read_parts-if (length d.outputs == 0) no_output (driven d) N names.1 in
    let read = read_parts (first_undriven_name d) undriven (grounded (numbered d)) N outputs.1 in
    let M : NetValue = numbered d in
    let tables = read_parts (first_ungrounded (input_count M) M.tables) (λ i. cycle (name_of (signal_names M) (input_count M + i))) (sized M) N read.1 in
    let sizes = read_parts (first_limit M) limit (Ok M) N tables.1 in
    record {
      accepted = record { undoubled = names.0; some_output = outputs.0; driven = read.0; grounded = tables.0; small = sizes.0 };
      is = sym (same_Ok M N sizes.1);
    }

read_when : {X : Type 0} (o : Option X) (refuse : X → Refusal) (rest : Result NetValue Refusal) → o ≡ None → unless_refused o refuse rest ≡ rest
read_when o refuse rest e = rw e refl

pub read-accepted : (d : NamedNet) → IsAccepted d → single d ≡ Ok (numbered d)
read-accepted d h =
    let M : NetValue = numbered d in
    read_when (first_doubled (names_of d)) doubled (with_output d) h.undoubled
    ∙ ap (λ refused. cond refused (Err no_output) (driven d)) h.some_output
    ∙ read_when (first_undriven_name d) undriven (grounded M) h.driven
    ∙ read_when (first_ungrounded (input_count M) M.tables) (λ i. cycle (name_of (signal_names M) (input_count M + i))) (sized M) h.grounded
    ∙ read_when (first_limit M) limit (Ok M) h.small
