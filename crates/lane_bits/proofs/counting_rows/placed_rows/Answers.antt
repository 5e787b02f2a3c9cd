use Rattle.std.proofs.Common.{◌+◌, sym, subst, arith, length}
use Rattle.lane_bits.specs.CountingOrder.{ArePlacedRows}
use Rattle.lane_bits.proofs.CountingOrder.{placed_none, placed_more, placed_all}
use Rattle.lane_bits.proofs.counting_rows.placed_rows.Goals as goal

pub loop-i-init : goal.loop-i-init
loop-i-init c = subst (ArePlacedRows 0 c.args.count c.args.order.now) (sym c.new-rows.ensures.items) (placed_none c.args.count c.args.order.now)

pub loop-i-preserved : goal.loop-i-preserved
loop-i-preserved c =
    subst (ArePlacedRows (c.loop-i.i + 1) c.args.count c.args.order.now) (sym c.in_ok-push.ensures.items)
    (placed_more c.loop-i.i c.args.count c.place.result c.args.order.now c.loop-i.rows.items c.in_ok-counting_row.field-0 c.loop-i.invariant c.place.ensures.within c.place.ensures.there
    c.in_ok-counting_row.ensures)

pub returns : goal.returns
returns c = placed_all c.loop-i.i (length c.args.order.now) c.args.count c.args.order.now c.loop-i.rows.items (omega (arith, c.loop-i-test.false, c.inputs-i-end.ensures)) c.loop-i.invariant
