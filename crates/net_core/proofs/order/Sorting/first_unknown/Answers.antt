use Rattle.std.proofs.Common.{subst, All}
use Rattle.std.proofs.lemmas.List.{take_all}
use Rattle.std.proofs.lemmas.List.Elements.{All-more}
use Rattle.semantics.specs.Order.{IsKnown}
use Rattle.net_core.proofs.order.Sorting.first_unknown.Goals as goal

pub loop-k-preserved : goal.loop-k-preserved
loop-k-preserved c =
    All-more (IsKnown c.args.inputs c.args.self.now.order) c.args.pins.now c.loop-k.k 0 c.loop-k-test.true c.loop-k.invariant (c.is_known.ensures.0 c.if-not-is_known.false)

pub returns : goal.returns
returns c = subst (All (IsKnown c.args.inputs c.args.self.now.order)) (take_all c.loop-k.k c.args.pins.now c.loop-k-test.false) c.loop-k.invariant
