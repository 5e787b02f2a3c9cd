use Rattle.literal_sums.proofs.Taking.{ArePlacesTaken}
use Rattle.literal_sums.proofs.word.take_places.Given as goal

abbrev pub invariant-loop-place : goal.invariant-loop-place
invariant-loop-place l = ArePlacesTaken l.initial.g l.g l.shift l.place l.word.items l.initial.left l.left
