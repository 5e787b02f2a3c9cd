use Rattle.word_nets.proofs.Multiplying.{MakingProducts}
use Rattle.word_nets.proofs.multiplier.products.Given as goal

abbrev pub invariant-loop-at : goal.invariant-loop-at
invariant-loop-at l = MakingProducts l.fn.net l.net l.bit l.at-items l.bits l.at-index
