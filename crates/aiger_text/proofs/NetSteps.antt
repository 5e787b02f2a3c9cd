-- From a circuit to its net, or its first refusal.
use Rattle.std.proofs.Common.{◌≡◌, ℕ, ◌+◌, ◌<◌, ◌^◌, true, false, cond, ◌==◌, List, ◌++◌, map, codes, length, get_or, Option, Some, None, Result, Ok, Err, IfErr, refl, ap, sym, subst, ◌∙◌, arith}
use Rattle.std.specs.Option.{option_map}
use Rattle.std.proofs.lemmas.List.{length-map}
use Rattle.std.proofs.lemmas.Option.{none-some, same_Some}
use Rattle.semantics.specs.Texts.{Bytes}
use Rattle.semantics.specs.declared.which.Which.{Which}
use Rattle.semantics.specs.Net.{TableValue, NetValue, input_count, signal_names}
use Rattle.semantics.specs.Refusals as net
use Rattle.semantics.specs.Refusals.{NetRefused, first_doubled, first_undriven, first_ungrounded, first_limit, net_refusal}
use Rattle.aiger_semantics.specs.Circuit.{CircuitValue}
use Rattle.aiger_semantics.specs.CircuitLines.{Refusal, twice, undefined, no_output, loop, doubled, limit}
use Rattle.aiger_semantics.specs.ReadNet.{variables, and_table, output_table, output_ports, own_outputs, port_signal, net_of}
use Rattle.aiger_semantics.specs.Reading.{first_repeated, first_undefined, first_loop, operand_tables, unless_refused, named, grounded, with_output, defined, net_reading}
use Rattle.aiger_semantics.proofs.ReadWired.{tables-count, read-driven, read-grounded}
use Rattle.aiger_text.specs.declared.refusal.AigerRefusal.{AigerRefusal}
use Rattle.aiger_text.specs.Refusals.{Tells}
use Rattle.aiger_text.specs.ReadCircuit.{IsRead}
use Rattle.aiger_text.proofs.PortSteps.{outputs-count, own-short}

-- what tells one answer tells each that is the same
pub told_along : {X : Type 0} (told : AigerRefusal) (answer other : Result X Refusal) → answer ≡ other → Tells told other → Tells told answer
told_along told answer other same h = λ refusal e. same ∙ h refusal e

-- what is known of a refusal is known of the result that passes it on
pub passed_on : {T : Type 0} (r : Result T AigerRefusal) (told : AigerRefusal) (P : AigerRefusal → Type 0) → ((y : AigerRefusal) × (r ≡ Err y) × (y ≡ told)) → P told → IfErr r P
passed_on r told P (y, is, same) h = subst (λ q. IfErr q P) (sym is) (subst P (sym same) h)

-- ---- names and limits

-- what the refusal of parts that are wired and have no loop makes of them
abbrev as_result : NetValue → Option NetRefused → Result NetValue Refusal
as_result N None = Ok N
as_result N (Some (net.doubled name)) = Err (doubled name)
as_result N (Some (net.limit which)) = Err (limit which)
as_result N (Some _) = Ok N

module _ (N : NetValue) (output : (length N.outputs == 0) ≡ false) (driven : first_undriven N ≡ None) (no_loop : first_ungrounded (input_count N) N.tables ≡ None) where
  abbrev names_or : Option Bytes → Option Which → Option NetRefused
  names_or names limits = net.or_else names net.doubled (net.or_else limits net.limit None)

  refusal-is : net_refusal N ≡ names_or (first_doubled (signal_names N)) (first_limit N)
  unfolding net_refusal
  refusal-is = rw (output, driven, no_loop) refl

  both : (names : Option Bytes) (limits : Option Which) → unless_refused names doubled (unless_refused limits limit (Ok N)) ≡ as_result N (names_or names limits)
  both (Some name) limits = refl
  both None (Some which) = refl
  both None None = refl

  pub named-is : named N ≡ as_result N (net_refusal N)
  named-is = both (first_doubled (signal_names N)) (first_limit N) ∙ ap (as_result N) (sym refusal-is)

  pub named-ok : net_refusal N ≡ None → named N ≡ Ok N
  named-ok e = named-is ∙ ap (as_result N) e

  pub named-doubled : (name : Bytes) → net_refusal N ≡ Some (net.doubled name) → named N ≡ Err (doubled name)
  named-doubled name e = named-is ∙ ap (as_result N) e

  pub named-limit : (which : Which) → net_refusal N ≡ Some (net.limit which) → named N ≡ Err (limit which)
  named-limit which e = named-is ∙ ap (as_result N) e

  -- it is none but these two
  abbrev IsNamed : NetRefused → Type 0
  IsNamed (net.doubled name) = Unit {0}
  IsNamed (net.limit which) = Unit {0}
  IsNamed _ = ⊥

  pub told-named : (r : NetRefused) → net_refusal N ≡ Some r → IsNamed r
  told-named r e = at_names (first_doubled (signal_names N)) (first_limit N) (sym refusal-is ∙ e)
    where
      at_names : (names : Option Bytes) (limits : Option Which) → names_or names limits ≡ Some r → IsNamed r
      at_names (Some name) limits k = subst IsNamed (same_Some _ _ k) tt
      at_names None (Some which) k = subst IsNamed (same_Some _ _ k) tt
      at_names None None k = absurd (none-some r k)

-- ---- circuits

module _ (c : CircuitValue) where
  pub repeated_told : (vs : List ℕ) (told : AigerRefusal) → vs ≡ variables c → ((rest : Result NetValue Refusal) → Tells told (unless_refused (first_repeated vs) twice rest))
      → Tells told (net_reading c)
  repeated_told vs told same h = λ refusal e. ap (λ d. unless_refused (first_repeated d) twice (defined c)) (sym same) ∙ h (defined c) refusal e

  module _ (differ : first_repeated (variables c) ≡ None) where
    net-defined : net_reading c ≡ defined c
    net-defined = ap (λ o. unless_refused o twice (defined c)) differ

    pub undefined_told : (told : AigerRefusal) → ((rest : Result NetValue Refusal) → Tells told (unless_refused (first_undefined c) undefined rest)) → Tells told (net_reading c)
    undefined_told told h = λ refusal e. net-defined ∙ h (with_output c) refusal e

    module _ (known : first_undefined c ≡ None) where
      net-output : net_reading c ≡ with_output c
      net-output = net-defined ∙ ap (λ o. unless_refused o undefined (with_output c)) known

      pub no_output_told : (length c.outputs == 0) ≡ true → net_reading c ≡ Err no_output
      no_output_told none = net-output ∙ ap (λ t. cond t (Err no_output) (grounded c)) none

      module _ (some : (length c.outputs == 0) ≡ false) where
        net-grounded : net_reading c ≡ grounded c
        net-grounded = net-output ∙ ap (λ t. cond t (Err no_output) (grounded c)) some

        pub loop_told : (told : AigerRefusal) → ((rest : Result NetValue Refusal) → Tells told (unless_refused (first_loop c) loop rest)) → Tells told (net_reading c)
        loop_told told h = λ refusal e. net-grounded ∙ h (named (net_of c)) refusal e

        pub net-named : first_loop c ≡ None → net_reading c ≡ named (net_of c)
        net-named none = net-grounded ∙ ap (λ o. unless_refused o loop (named (net_of c))) none

-- no loop of lines is no table of operands that is not grounded
pub no_loop-ungrounded : (c : CircuitValue) → first_loop c ≡ None → first_ungrounded (length c.inputs) (operand_tables c) ≡ None
no_loop-ungrounded c none = unmapped (λ i. get_or (map (λ a. a.variable) c.ands) i 0) (first_ungrounded (length c.inputs) (operand_tables c)) none
  where
    unmapped : (f : ℕ → ℕ) (found : Option ℕ) → option_map f found ≡ None → found ≡ None
    unmapped f None e = refl
    unmapped f (Some i) e = absurd (none-some (f i) (sym e))

-- ---- the net

-- parts that were made one by one are the net of the circuit
pub net-is : (c : CircuitValue) (model : Bytes) (inputs : List Bytes) (tables : List TableValue) (outputs known : List ℕ) → known ≡ variables c → model ≡ codes "top" → inputs ≡ c.input_names
    → tables ≡ map (and_table known) c.ands ++ map (output_table known) (own_outputs c) → outputs ≡ map (port_signal c) (output_ports c)
    → record { model = model; inputs = inputs; tables = tables; outputs = outputs } ≡ net_of c
unfolding net_of
net-is c model inputs tables outputs known same top ins made outs =
    let there : tables ≡ map (and_table (variables c)) c.ands ++ map (output_table (variables c)) (own_outputs c) =
    made ∙ ap (λ d. map (and_table d) c.ands ++ map (output_table d) (own_outputs c)) same in
    rw (top, ins, there, outs) refl

module _ (c : CircuitValue) (read : IsRead c) (defined : first_undefined c ≡ None) where
  pub few-signals : (N : NetValue) → N ≡ net_of c → length N.inputs + length N.tables < 2 ^ 31
  few-signals N same =
      subst (λ (M : NetValue). length M.inputs + length M.tables < 2 ^ 31) (sym same)
      (unfold net_of in (omega (arith, tables-count c read.input_names defined, own-short c read, read.few, read.input_names)))

  pub some-output : (N : NetValue) → N ≡ net_of c → (length c.outputs == 0) ≡ false → (length N.outputs == 0) ≡ false
  some-output N same some =
      subst (λ (M : NetValue). (length M.outputs == 0) ≡ false) (sym same)
      (unfold net_of in (ap (λ n. n == 0) (length-map (output_ports c) (port_signal c) ∙ outputs-count c read) ∙ some))

  pub none-undriven : (N : NetValue) → N ≡ net_of c → first_undriven N ≡ None
  none-undriven N same = ap first_undriven same ∙ read-driven c read.input_names defined

  pub none-ungrounded : (N : NetValue) → N ≡ net_of c → first_loop c ≡ None → first_ungrounded (length N.inputs) N.tables ≡ None
  none-ungrounded N same none = ap (λ (M : NetValue). first_ungrounded (length M.inputs) M.tables) same ∙ read-grounded c read.input_names defined (no_loop-ungrounded c none)
