-- Which texts are refused for their length.
use Rattle.std.proofs.Common.{◌≡◌, ◌↔◌, ℕ, ◌+◌, ◌<◌, Bool, true, false, not, ◌==◌, cond, leb, List, map, length, Option, Some, None, Result, Ok, Err, refl, ap, sym, ◌∙◌}
use Rattle.std.proofs.lemmas.Bool.{leb-false, lt-leb, false≢true}
use Rattle.semantics.specs.Texts.{Bytes, Line}
use Rattle.semantics.specs.Net.{NetValue, input_count, signal_names, name_of}
use Rattle.semantics.specs.Refusals.{first_doubled, first_ungrounded, first_limit}
use Rattle.blif_semantics.specs.Lines.{Statement, logical_lines, statements}
use Rattle.blif_semantics.specs.Statements.{first_wrong}
use Rattle.blif_semantics.specs.Reading.{Refusal, text_long, wrong_line, doubled, no_output, undriven, cycle, limit, NamedNet, named_net, names_of, first_undriven_name, numbered, unless_refused}
use Rattle.blif_semantics.specs.Reading.{sized, grounded, driven, with_output, single, lines_reading, blif_reading}

tells_long : Result NetValue Refusal → Bool
tells_long (Err text_long) = true
tells_long _ = false

unless_other : {X : Type 0} (o : Option X) (refuse : X → Refusal) (rest : Result NetValue Refusal) → ((x : X) → tells_long (Err (refuse x)) ≡ false) → tells_long rest ≡ false
    → tells_long (unless_refused o refuse rest) ≡ false
unless_other None refuse rest others e = e
unless_other (Some x) refuse rest others e = others x

if_other : (refused : Bool) (r : Refusal) (rest : Result NetValue Refusal) → tells_long (Err r) ≡ false → tells_long rest ≡ false → tells_long (cond refused (Err r) rest) ≡ false
if_other false r rest other e = e
if_other true r rest other e = other

-- a net of names is not refused for the length of its text
single_other : (d : NamedNet) → tells_long (single d) ≡ false
unfolding tells_long
single_other d =
    let M : NetValue = numbered d in
    let sizes = unless_other (first_limit M) limit (Ok M) (λ which. refl) refl in
    let tables = unless_other (first_ungrounded (input_count M) M.tables) (λ i. cycle (name_of (signal_names M) (input_count M + i))) (sized M) (λ i. refl) sizes in
    let names = unless_other (first_undriven_name d) undriven (grounded M) (λ name. refl) tables in
    let outputs = if_other (length d.outputs == 0) no_output (driven d) refl names in
    unless_other (first_doubled (names_of d)) doubled (with_output d) (λ name. refl) outputs

lines_other : (all : List Statement) → tells_long (unless_refused (first_wrong all) (λ w. wrong_line w.line w.wrong) (lines_reading (map (λ s. s.words) all))) ≡ false
unfolding tells_long
lines_other all =
    let lines : List Line = map (λ s. s.words) all in
    unless_other (first_wrong all) (λ w. wrong_line w.line w.wrong) (lines_reading lines) (λ w. refl) (single_other (named_net lines))

past : (fits : Bool) (rest : Result NetValue Refusal) → tells_long rest ≡ false → cond (not fits) (Err text_long) rest ≡ Err text_long → fits ≡ false
unfolding tells_long
past false rest other e = refl
past true rest other e = absurd (false≢true (sym other ∙ ap tells_long e))

pub long : (text : Bytes) (most : ℕ) → (blif_reading text most ≡ Err text_long) ↔ (most < length text)
unfolding blif_reading
long text most =
    let all : List Statement = statements (logical_lines text) in
    let rest : Result NetValue Refusal = unless_refused (first_wrong all) (λ w. wrong_line w.line w.wrong) (lines_reading (map (λ s. s.words) all)) in (
      λ e. leb-false (length text) most (past (leb (length text) most) rest (lines_other all) e),
      λ h. ap (λ fits. cond (not fits) (Err text_long) rest) (lt-leb (length text) most h),
    )
