use Rattle.std.proofs.Common.{◌≡◌, ◌+◌, ◌*◌, ◌<◌, length, get_or, ap, sym, subst, ◌∙◌, arith}
use Rattle.aig_core.specs.Graph.{gate_node}
use Rattle.lane_nets.specs.Schedules.{AreEntriesBelow}
use Rattle.lane_nets.proofs.Schedules.{order_pushed, order_kept, order_next, entry_is}
use Rattle.lane_nets.proofs.schedule.push_class.Goals as goal
use Rattle.lane_nets.proofs.schedule.push_class.Goals.{then-classes-node+in_ok-push, else-classes-node}

pub loop-i-preserved : goal.loop-i-preserved
loop-i-preserved c =
    let g = c.args.graph.now in
    let e = c.gates-gate-items.ensures in
    let low : c.loop-i.i < length c.args.graph.now.gates = omega (arith, c.loop-i-test.true, ap length e.gates) in
    elim c.if-classes-node.branch [
      | then-classes-node+in_ok-push w ↦
          rw (w.order-is, w.in_ok-push.ensures.items)
          (order_pushed g 16 c.args.classes.now e.few e.graph c.requires.classes c.loop-i.order.items c.loop-i.i c.args.class _ low
          (ap (λ n. get_or c.args.classes.now (1 + n + c.loop-i.i) 0) (sym c.inputs-first.ensures) ∙ w.if-classes-node.true)
          (entry_is g c.gates-gate-items.result.now c.inputs-first.result c.loop-i.i e.gates c.inputs-first.ensures) c.loop-i.invariant)
      | else-classes-node w ↦
          rw w.order-is
          (order_kept g 16 c.args.classes.now e.few e.graph c.requires.classes c.loop-i.order.items c.loop-i.i c.args.class low
          (λ same. w.if-classes-node.false (ap (λ n. get_or c.args.classes.now (1 + n + c.loop-i.i) 0) c.inputs-first.ensures ∙ same)) c.loop-i.invariant)
    ]

pub returns : goal.returns
returns c =
    let g = c.args.graph.now in
    let e = c.gates-gate-items.ensures in
    let end : c.loop-i.i ≡ length c.args.graph.now.gates = omega (arith, c.loop-i-test.false, c.loop-i.auto.i-end, ap length e.gates) in
    order_next g 16 c.args.classes.now e.few e.graph c.requires.classes c.loop-i.order.items c.args.class
    (subst (λ k. AreEntriesBelow c.args.graph.now c.args.classes.now (4294967296 * c.args.class + gate_node c.args.graph.now k) c.loop-i.order.items) end c.loop-i.invariant)
