use Rattle.lane_bits.specs.CountingOrder.{AreCountingRows}
use Rattle.lane_bits.proofs.counting_rows.counting_rows.Given as goal

abbrev pub invariant-loop-i : goal.invariant-loop-i
invariant-loop-i l = AreCountingRows l.i l.count l.rows.items
