use Rattle.word_nets.proofs.Multiplying.{MakingRows}
use Rattle.word_nets.proofs.multiplier.product_rows.Given as goal

abbrev pub invariant-loop-bit : goal.invariant-loop-bit
invariant-loop-bit l = MakingRows l.fn.net l.net l.x l.bit-items l.rows l.bit-index
