use Rattle.std.proofs.Common.{inl, inr, sym, subst, Contains, arith}
use Rattle.std.proofs.lemmas.Bool.{cases_eq}
use Rattle.net_core.proofs.order.Sorting.first_without_place.Goals as goal

pub loop-i-preserved : goal.loop-i-preserved
loop-i-preserved c = λ j low.
    elim (cases_eq j c.loop-i.i) [
      | inl e ↦ subst (Contains c.args.self.now.order) (sym e) (c.has_place.ensures.0 c.if-not-has_place.false)
      | inr ne ↦ c.loop-i.invariant j (omega arith)
    ]
