use Rattle.aig_core.proofs.Signals.{AreInputsSoFar}
use Rattle.aig_core.proofs.nets.input_literals.Given as goal

abbrev pub invariant-loop-i : goal.invariant-loop-i
invariant-loop-i l = AreInputsSoFar l.g l.inputs.items l.i l.g.inputs
