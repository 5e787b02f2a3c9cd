use Rattle.hier_flat.proofs.Framing.{range_pushed}
use Rattle.hier_flat.proofs.frames.with_outputs.Goals as goal

pub loop-signal-preserved : goal.loop-signal-preserved
loop-signal-preserved c = range_pushed c.loop-signal.signals c.push.new.self c.loop-signal.signal _ _ c.loop-signal-test.true c.in_ok-push.ensures.ok c.loop-signal.invariant
