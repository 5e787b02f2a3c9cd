use Rattle.std.proofs.Common.{get_or, refl, arith}
use Rattle.net_tidy.proofs.Marking.{mark_step, mark_end}
use Rattle.net_tidy.proofs.first_flags.mark.Goals as goal

pub loop-signal-init : goal.loop-signal-init
loop-signal-init c = λ s. refl

pub loop-signal-preserved : goal.loop-signal-preserved
loop-signal-preserved c = λ s.
    mark_step c.args.signals.now c.loop-signal.marks c.loop-signal.signal-index (get_or c.args.signals.now c.loop-signal.signal-index 0) s _ c.loop-signal-test.true refl
    (omega (arith, c.loop-signal.auto.marks, c.requires c.loop-signal.signal-index 0 c.loop-signal-test.true)) (c.loop-signal.invariant s)

pub returns : goal.returns
returns c = λ s. mark_end c.args.signals.now c.loop-signal.marks c.loop-signal.signal-index s _ c.loop-signal-test.false (c.loop-signal.invariant s)
