use Rattle.std.proofs.Common.{arith}
use Rattle.net_core.proofs.Sorting.{order-le}
use Rattle.net_core.proofs.order.settle.Goals as goal

pub loop-head-smaller : goal.loop-head-smaller
loop-head-smaller c =
    let few = order-le c.args.inputs c.args.tables.now c.loop-head.sorting c.loop-head.invariant.sorting in
    omega (arith, few, c.count.ensures, c.loop-head-test.true)
