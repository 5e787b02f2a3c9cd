use Rattle.std.proofs.Common.{length, get_or, refl, arith}
use Rattle.net_core.proofs.InOrder.{next_at}
use Rattle.lane_nets.proofs.cone_order.set_cones.Goals as goal

pub table-requires : goal.table-requires
table-requires c =
    let next = next_at (length c.args.net.now.inputs) c.args.net.now.tables c.order-i-items.result.now c.order-i-items.ensures c.loop-i.i-index
    (get_or c.order-i-items.result.now c.loop-i.i-index 0) c.loop-i-test.true refl in
    omega (arith, next.table)

pub bounds-cones-inputs : goal.bounds-cones-inputs
bounds-cones-inputs c =
    let next = next_at (length c.args.net.now.inputs) c.args.net.now.tables c.order-i-items.result.now c.order-i-items.ensures c.loop-i.i-index
    (get_or c.order-i-items.result.now c.loop-i.i-index 0) c.loop-i-test.true refl in
    omega (arith, next.table, c.requires.room)
