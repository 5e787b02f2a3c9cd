use Rattle.std.proofs.Common.{ℕ, false, [], length, sym, ap, ◌∙◌}
use Rattle.bundle_texts.specs.VectorLine.{LineValue}
use Rattle.bundle.specs.Shown.{AskedValue}
use Rattle.bundle.proofs.VectorsSoFar.{starts_standing}
use Rattle.bundle.proofs.vectors_check.VectorsCheck.new.Goals as goal

pub invariant_of-result : goal.invariant_of-result
invariant_of-result c =
    let line_of_width : ℕ → LineValue = λ n. record { inputs = n; begun = []; has_ended = false } in
    let width = c.inputs.ensures.value ∙ sym c.inputs.ensures.asked.width ∙ ap (λ (a : AskedValue). length a.witness) (sym c.in_ok-new.ensures.asked) in
    starts_standing c.in_ok-new.field-0 c.new-line.result c.new-2.result.bytes (c.new-line.ensures ∙ ap line_of_width width) c.new-2.ensures c.in_ok-new.ensures.taken
