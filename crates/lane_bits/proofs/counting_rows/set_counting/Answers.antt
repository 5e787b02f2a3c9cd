use Rattle.std.proofs.Common.{arith}
use Rattle.lane_bits.proofs.CountingOrder.{row_from_words}
use Rattle.lane_bits.proofs.counting_rows.set_counting.Goals as goal

pub returns : goal.returns
returns c = λ p low. row_from_words c.args.input c.loop-k.row (λ k within. c.loop-k.invariant k (omega (arith, within))) p (omega (arith, low))
