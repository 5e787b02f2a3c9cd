use Rattle.bdd_nets.proofs.Apart.{DiffersBefore}
use Rattle.bdd_nets.proofs.distinct.is_new.Given as goal

abbrev pub invariant-loop-k : goal.invariant-loop-k
invariant-loop-k l = DiffersBefore l.variables l.j l.k
