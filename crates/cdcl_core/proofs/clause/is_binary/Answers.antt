use Rattle.std.proofs.Common.{◌≡◌, ℤ, subst, inl, inr}
use Rattle.std.specs.Prelude.{◌⊎◌}
use Rattle.std.proofs.lemmas.List.{take_all}
use Rattle.std.proofs.lemmas.List.Elements.{All-more}
use Rattle.cdcl_core.specs.Watched.{IsBinary}
use Rattle.cdcl_core.proofs.clause.is_binary.Goals as goal
use Rattle.cdcl_core.proofs.clause.is_binary.Goals.{else-not-is-via-then-not-is+else-not-is-2, else-not-is-via-else-not-is}

pub loop-literal-preserved : goal.loop-literal-preserved
loop-literal-preserved c =
    let P : ℤ → Type 0 = λ a. (a ≡ c.args.one) ⊎ (a ≡ c.args.other) in
    let here : P c.literal-item.result = elim c.else-not-is.branch [
      | else-not-is-via-then-not-is+else-not-is-2 w ↦ inr (w.is-then-not-is.ensures.0 w.if-not-is-2.false)
      | else-not-is-via-else-not-is w ↦ inl (c.is.ensures.0 w.if-not-is.false)
    ] in
    All-more P c.args.clause.now c.loop-literal.literal-index c.literal-item.result c.loop-literal-test.true c.loop-literal.invariant (subst P c.literal-item.is here)

pub returns : goal.returns
returns c _ =
    subst (λ C. IsBinary c.args.one c.args.other C) (take_all c.loop-literal.literal-index c.args.clause.now c.loop-literal-test.false) c.loop-literal.invariant
