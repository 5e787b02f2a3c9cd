use Rattle.std.proofs.Common.{◌⊎◌, ℕ, ◌+◌, ◌<◌, ◌≤◌, get_or}
use Rattle.lane_nets.specs.Changes.{IsInputAt}
use Rattle.lane_nets.specs.Schedules.{IsSameNode}
use Rattle.lane_nets.proofs.graph_blocks.change_inputs.Given as goal

abbrev pub invariant-loop-s : goal.invariant-loop-s
invariant-loop-s l = record {
  inputs : (i : ℕ) → i < l.s → IsInputAt l.next.patterns.now l.next.q l.wides i;
  changed : (n : ℕ) → IsSameNode l.initial.wides l.wides n ⊎ (l.from ≤ get_or l.firsts n 0);
  constant : IsSameNode l.initial.wides l.wides 0;
  later : (n : ℕ) → 1 + l.s ≤ n → IsSameNode l.initial.wides l.wides n;
}
