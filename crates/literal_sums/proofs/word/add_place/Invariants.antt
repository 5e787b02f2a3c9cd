use Rattle.std.proofs.Common.{◌-◌, length}
use Rattle.literal_sums.proofs.Taking.{IsSumSoFar}
use Rattle.literal_sums.proofs.word.add_place.Given as goal

abbrev pub invariant-loop-i : goal.invariant-loop-i
invariant-loop-i l = IsSumSoFar l.initial.g l.g l.initial.left l.left

abbrev pub decreases-loop-i : goal.decreases-loop-i
decreases-loop-i l = length l.literals - l.i
