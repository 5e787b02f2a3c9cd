use Rattle.bdd_nets.proofs.Splitting.{NoneSoFar}
use Rattle.bdd_nets.proofs.splits.settled.Given as goal

abbrev pub invariant-loop-row : goal.invariant-loop-row
invariant-loop-row l = NoneSoFar l.rows l.chosen l.row-index l.possible
