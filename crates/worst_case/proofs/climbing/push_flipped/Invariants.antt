use Rattle.std.proofs.Common.{◌≡◌, ◌≤◌, length}
use Rattle.worst_case.proofs.climbing.push_flipped.Given as goal

abbrev pub invariant-loop-i : goal.invariant-loop-i
invariant-loop-i l = record {
  room : length l.x ≡ l.initial.set.inputs;
  inputs : l.set.inputs ≡ l.initial.set.inputs;
  more : length l.initial.set.vectors ≤ length l.set.vectors;
}
