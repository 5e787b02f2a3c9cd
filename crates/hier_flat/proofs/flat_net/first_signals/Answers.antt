use Rattle.hier_flat.proofs.Framing.{range_pushed}
use Rattle.hier_flat.proofs.flat_net.first_signals.Goals as goal

pub loop-signal-preserved : goal.loop-signal-preserved
loop-signal-preserved c = range_pushed c.loop-signal.signals c.push.new.self c.loop-signal.signal _ _ c.loop-signal-test.true c.in_ok-push.ensures.ok c.loop-signal.invariant
