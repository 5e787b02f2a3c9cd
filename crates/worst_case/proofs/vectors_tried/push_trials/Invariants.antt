use Rattle.std.proofs.Common.{◌≡◌, ◌≤◌, length}
use Rattle.worst_case.proofs.vectors_tried.push_trials.Given as goal

abbrev pub invariant-loop-j : goal.invariant-loop-j
invariant-loop-j l = record {
  inputs : l.set.inputs ≡ l.initial.set.inputs;
  count : l.j ≤ length l.set.vectors;
  room : length l.x ≡ l.initial.set.inputs;
}
