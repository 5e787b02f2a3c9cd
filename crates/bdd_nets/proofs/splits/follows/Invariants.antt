use Rattle.bdd_nets.proofs.Splitting.{AreImplied}
use Rattle.bdd_nets.proofs.splits.follows.Given as goal

abbrev pub invariant-loop-i : goal.invariant-loop-i
invariant-loop-i l = AreImplied l.marks l.chosen l.i
