use Rattle.std.proofs.Common.{◌≡◌, refl, get_or, ℤ, pos, neg_ℤ, to_z, of_z, w32, ap, ◌∙◌, rules}
use Rattle.std.specs.FinSet as set
use Rattle.lrat_check.proofs.HintAnswers.{negations_next}
use Rattle.lrat_check.proofs.hints.insert_negations.Goals as goal

pub loop-literal-preserved : goal.loop-literal-preserved
loop-literal-preserved c =
    let l : ℤ = get_or c.args.literals.now c.loop-literal.literal-index (pos 0) in
    let read : to_z w32 (of_z w32 l) ≡ l = search rules in
    let again : to_z w32 (of_z w32 c.negation.result) ≡ c.negation.result = search rules in
    negations_next c.loop-literal.set c.insert.new.self c.args.literals.now c.loop-literal.literal-index l c.loop-literal-test.true refl
    (c.in_ok-insert.ensures ∙ ap (set.insert c.loop-literal.set) (again ∙ c.negation.ensures ∙ ap neg_ℤ read))
    ∙ c.loop-literal.invariant
