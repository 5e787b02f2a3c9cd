use Rattle.std.proofs.Common.{ℕ, ◌≤◌, ◌<◌, ◌/◌, get_or}
use Rattle.aig_core.specs.Graph.{gate_at, gate_node}
use Rattle.lane_nets.proofs.schedule.set_gate_classes.Given as goal

abbrev pub invariant-loop-i : goal.invariant-loop-i
invariant-loop-i l = record {
  few : (n : ℕ) → get_or l.classes n 0 ≤ 16;
  left : (k : ℕ) → k < l.i → get_or l.classes ((gate_at l.graph k).left / 2) 0 ≤ get_or l.classes (gate_node l.graph k) 0;
  right : (k : ℕ) → k < l.i → get_or l.classes ((gate_at l.graph k).right / 2) 0 ≤ get_or l.classes (gate_node l.graph k) 0;
}
