use Rattle.std.proofs.Common.{All, subst}
use Rattle.std.proofs.lemmas.List.{take_all}
use Rattle.std.proofs.lemmas.List.Elements.{All-more}
use Rattle.net_core.specs.Places.{IsKnownAt}
use Rattle.net_core.proofs.order.are_known_at.Goals as goal

pub loop-signal-preserved : goal.loop-signal-preserved
loop-signal-preserved c =
    All-more (IsKnownAt c.args.inputs c.args.order.now c.args.t) c.args.signals.now c.loop-signal.signal-index 0 c.loop-signal-test.true c.loop-signal.invariant
    (c.is_known_at.ensures c.if-not-is_known_at.false)

pub returns : goal.returns
returns c = λ yes. subst (All (IsKnownAt c.args.inputs c.args.order.now c.args.t)) (take_all c.loop-signal.signal-index c.args.signals.now c.loop-signal-test.false) c.loop-signal.invariant
