use Rattle.std.proofs.Common.{List, ◌≡◌, ◌<◌, ◌/◌, length, get_or, ap, arith}
use Rattle.aig_core.specs.declared.gate.Gate.{Gate}
use Rattle.aig_core.specs.Graph.{no_gate, gate_node, node_count}
use Rattle.lane_nets.proofs.Schedules.{few_set, lefts_more, rights_more}
use Rattle.lane_nets.proofs.schedule.set_gate_classes.Goals as goal

pub loop-i-init : goal.loop-i-init
loop-i-init c = record { few = c.requires.few; left = λ k low. absurd (omega (arith, low)); right = λ k low. absurd (omega (arith, low)) }

pub loop-i-preserved : goal.loop-i-preserved
loop-i-preserved c =
    let g = c.args.graph.now in
    let e = c.gates-gate-items.ensures in
    let i = c.loop-i.i in
    let low : c.loop-i.i < length c.args.graph.now.gates = omega (arith, c.loop-i-test.true, ap length e.gates) in
    let room : length c.loop-i.classes ≡ node_count c.args.graph.now = omega (arith, c.requires.room, c.loop-i.auto.classes) in
    let lefts = ap (λ (gs : List Gate). get_or c.loop-i.classes ((get_or gs c.loop-i.i no_gate).left / 2) 0) e.gates in
    let rights = ap (λ (gs : List Gate). get_or c.loop-i.classes ((get_or gs c.loop-i.i no_gate).right / 2) 0) e.gates in
    let few = c.loop-i.invariant.few in
    rw c.inputs.ensures
    (record {
      few =
          few_set c.loop-i.classes (gate_node c.args.graph.now c.loop-i.i) c.max.result 16 c.loop-i.invariant.few
          (omega (arith, c.max.ensures, few ((get_or c.gates-gate-items.result.now c.loop-i.i no_gate).left / 2), few ((get_or c.gates-gate-items.result.now c.loop-i.i no_gate).right / 2)))
          (omega (arith, room, low));
      left = lefts_more g c.loop-i.classes i _ _ c.max.result e.graph low room lefts rights c.max.ensures c.loop-i.invariant.left;
      right = rights_more g c.loop-i.classes i _ _ c.max.result e.graph low room lefts rights c.max.ensures c.loop-i.invariant.right;
    })
