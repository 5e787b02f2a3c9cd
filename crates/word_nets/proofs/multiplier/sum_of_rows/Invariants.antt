use Rattle.word_nets.proofs.Multiplying.{AddingRows}
use Rattle.word_nets.proofs.multiplier.sum_of_rows.Given as goal

abbrev pub invariant-loop-place : goal.invariant-loop-place
invariant-loop-place l = AddingRows l.fn.net l.net l.rows l.sum l.place
