use Rattle.std.proofs.Common.{arith}
use Rattle.aig_core.proofs.Signals.{inputs_more}
use Rattle.aig_core.proofs.nets.input_literals.Goals as goal

pub loop-i-preserved : goal.loop-i-preserved
loop-i-preserved c = inputs_more _ _ c.loop-i.i _ _ c.loop-i.invariant c.input.ensures (omega arith)
