use Rattle.lane_bits.proofs.Changed.{clear_more}
use Rattle.lane_bits.proofs.kernels.clear_words.Goals as goal

pub loop-q-preserved : goal.loop-q-preserved
loop-q-preserved c = clear_more c.args.row.now c.loop-q.q c.loop-q.invariant (c.are_clear.ensures c.if-not-are_clear.false)
