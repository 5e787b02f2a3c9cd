use Rattle.bdd_levels.proofs.Subtraction.{Subtracting}
use Rattle.bdd_levels.proofs.distances.difference.Given as goal

abbrev pub invariant-loop-place : goal.invariant-loop-place
invariant-loop-place l = Subtracting l.fn.net l.net l.x l.y l.bits l.borrow l.place
