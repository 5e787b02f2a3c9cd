use Rattle.literal_sums.proofs.Counting.{IsWordSoFar}
use Rattle.literal_sums.proofs.sum.Sum.add_word.Given as goal

abbrev pub invariant-loop-literal : goal.invariant-loop-literal
invariant-loop-literal l = IsWordSoFar l.word l.literal-index l.initial.each l.each l.initial.self l.self
