use Rattle.aig_core.proofs.Signals.{AreSignalsSoFar}
use Rattle.aig_core.proofs.nets.signal_literals.Given as goal

abbrev pub invariant-loop-t : goal.invariant-loop-t
invariant-loop-t l = AreSignalsSoFar l.fn.g l.g l.net.tables l.t-items l.inputs l.signals.items l.t-index
