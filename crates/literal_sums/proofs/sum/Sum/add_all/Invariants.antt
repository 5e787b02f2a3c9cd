use Rattle.std.proofs.Common.{take}
use Rattle.literal_sums.specs.Sums.{CountsMore, sum_value}
use Rattle.literal_sums.proofs.sum.Sum.add_all.Given as goal

abbrev pub invariant-loop-term : goal.invariant-loop-term
invariant-loop-term l = CountsMore (λ v. sum_value v (take l.term-index l.terms)) l.initial.self l.self
