use Rattle.bdd_nets.proofs.Signals.{AreVariablesSoFar}
use Rattle.bdd_nets.proofs.nets.variable_diagrams.Given as goal

abbrev pub invariant-loop-i : goal.invariant-loop-i
invariant-loop-i l = AreVariablesSoFar l.initial.d l.d l.variables l.fs.items l.i
