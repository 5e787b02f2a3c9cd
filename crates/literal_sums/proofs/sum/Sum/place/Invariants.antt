use Rattle.std.specs.Prelude.{⊤}
use Rattle.literal_sums.proofs.sum.Sum.place.Given as goal

abbrev pub invariant-loop-i : goal.invariant-loop-i
invariant-loop-i l = ⊤
