use Rattle.literal_sums.proofs.Taking.{IsSumSoFar}
use Rattle.literal_sums.proofs.reduction.reduce.Given as goal

abbrev pub invariant-loop : goal.invariant-loop
invariant-loop l = IsSumSoFar l.initial.g l.g l.initial.sum l.sum
