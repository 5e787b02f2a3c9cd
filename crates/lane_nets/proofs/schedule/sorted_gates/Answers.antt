use Rattle.std.proofs.Common.{◌+◌, ◌≡◌, sym, subst, arith}
use Rattle.lane_nets.specs.Schedules.{AreEntriesBelow, class_bound}
use Rattle.lane_nets.proofs.Schedules.{order_none, order_all}
use Rattle.lane_nets.proofs.schedule.sorted_gates.Goals as goal

pub loop-class-init : goal.loop-class-init
loop-class-init c =
    subst (AreEntriesBelow c.args.graph.now c.args.classes.now (class_bound c.args.graph.now 0)) (sym c.new-order.ensures.items)
    (order_none c.args.graph.now 16 c.args.classes.now c.is_graph.ensures.few c.is_graph.ensures.graph c.requires)

pub returns : goal.returns
returns c =
    let end : c.loop-class.class ≡ 16 + 1 = omega (arith, c.loop-class-test.false, c.loop-class.auto.class-end) in
    order_all c.args.graph.now 16 c.args.classes.now c.is_graph.ensures.few c.is_graph.ensures.graph c.requires c.loop-class.order.items
    (subst (λ k. AreEntriesBelow c.args.graph.now c.args.classes.now (class_bound c.args.graph.now k) c.loop-class.order.items) end c.loop-class.invariant)
