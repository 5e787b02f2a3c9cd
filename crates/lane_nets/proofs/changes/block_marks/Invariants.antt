use Rattle.std.proofs.Common.{ℕ, ◌<◌}
use Rattle.lane_nets.specs.Changes.{IsKept, IsSameInput}
use Rattle.lane_nets.proofs.changes.block_marks.Given as goal

abbrev pub invariant-loop-s : goal.invariant-loop-s
invariant-loop-s l = (i : ℕ) → i < l.s → IsKept l.marks i → IsSameInput l.patterns.vectors l.q i
