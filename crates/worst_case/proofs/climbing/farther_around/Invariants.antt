use Rattle.std.proofs.Common.{◌≡◌, ◌<◌, length}
use Rattle.worst_case.proofs.climbing.farther_around.Given as goal

abbrev pub invariant-loop-i : goal.invariant-loop-i
invariant-loop-i l = record {
  room : length l.x.items ≡ length l.start;
  inputs : l.set.inputs ≡ length l.start;
  some : 0 < length l.set.vectors;
}
