use Rattle.std.proofs.Common.{◌≡◌, drop}
use Rattle.literal_sums.specs.Sums.{weight_in}
use Rattle.literal_sums.proofs.sum.Sum.weight.Given as goal

abbrev pub invariant-loop-term : goal.invariant-loop-term
invariant-loop-term l = weight_in l.literal (drop l.term-index l.term-items) ≡ weight_in l.literal l.self
