use Rattle.std.proofs.Common.{◌+◌, sym, subst, arith}
use Rattle.lane_bits.specs.CountingOrder.{AreCountingRows}
use Rattle.lane_bits.proofs.CountingOrder.{rows_none, rows_more, rows_all}
use Rattle.lane_bits.proofs.counting_rows.counting_rows.Goals as goal

pub loop-i-init : goal.loop-i-init
loop-i-init c = subst (AreCountingRows 0 c.args.count) (sym c.new-rows.ensures.items) (rows_none c.args.count)

pub loop-i-preserved : goal.loop-i-preserved
loop-i-preserved c =
    subst (AreCountingRows (c.loop-i.i + 1) c.args.count) (sym c.in_ok-push.ensures.items)
    (rows_more c.loop-i.i c.args.count c.loop-i.rows.items c.in_ok-counting_row.field-0 c.loop-i.invariant c.in_ok-counting_row.ensures)

pub returns : goal.returns
returns c = rows_all c.loop-i.i c.args.inputs c.args.count c.loop-i.rows.items (omega arith) c.loop-i.invariant
