use Rattle.std.proofs.Common.{◌≡◌, ℤ, neg_ℤ, subst, inl, inr}
use Rattle.std.specs.Prelude.{◌⊎◌}
use Rattle.std.proofs.lemmas.List.{take_all}
use Rattle.std.proofs.lemmas.List.Elements.{All-more}
use Rattle.cdcl_core.specs.Explained.{Holds}
use Rattle.cdcl_core.specs.Visited.{AreOthersFalse}
use Rattle.cdcl_core.proofs.visit.free_literal.Goals as goal
use Rattle.cdcl_core.proofs.visit.free_literal.Goals.{else-not-is-via-then-not-is+else-not-is_false, else-not-is-via-else-not-is}

pub loop-literal-preserved : goal.loop-literal-preserved
loop-literal-preserved c =
    let P : ℤ → Type 0 = λ a. (a ≡ c.args.first) ⊎ Holds c.args.trail.now.literals (neg_ℤ a) in
    let here : P c.literal-item.result = elim c.else-not-is.branch [
      | else-not-is-via-then-not-is+else-not-is_false w ↦ inr (w.is_false.ensures.0 w.if-not-is_false.false)
      | else-not-is-via-else-not-is w ↦ inl (c.is.ensures.0 w.if-not-is.false)
    ] in
    All-more P c.args.literals.now c.loop-literal.literal-index c.literal-item.result c.loop-literal-test.true c.loop-literal.invariant (subst P c.literal-item.is here)

pub returns-clause-none : goal.returns-clause-none
returns-clause-none c _ =
    subst (λ C. AreOthersFalse c.args.trail.now.literals C c.args.first) (take_all c.loop-literal.literal-index c.args.literals.now c.loop-literal-test.false) c.loop-literal.invariant
