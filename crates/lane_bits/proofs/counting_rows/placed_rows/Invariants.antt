use Rattle.lane_bits.specs.CountingOrder.{ArePlacedRows}
use Rattle.lane_bits.proofs.counting_rows.placed_rows.Given as goal

abbrev pub invariant-loop-i : goal.invariant-loop-i
invariant-loop-i l = ArePlacedRows l.i l.count l.order l.rows.items
