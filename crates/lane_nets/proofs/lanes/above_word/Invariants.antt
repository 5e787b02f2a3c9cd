use Rattle.std.proofs.Common.{ℕ, ◌↔◌, ◌+◌, ◌<◌, drop}
use Rattle.semantics.specs.Error.{number_of}
use Rattle.lane_nets.specs.Lanes.{lane_at, lane_number}
use Rattle.lane_nets.proofs.lanes.above_word.Given as goal

-- the comparison of the bits that are left, with the carry and with how the bits so far compare, is that of
-- the whole numbers
abbrev pub invariant-loop-i : goal.invariant-loop-i
invariant-loop-i l =
    (b : ℕ) → b < 64
    → (number_of (lane_at (drop l.i l.low) b) + l.rest + lane_number l.so_far.carry b < number_of (lane_at (drop l.i l.high) b) + lane_number l.so_far.above b)
    ↔ (number_of (lane_at l.low b) + l.level < number_of (lane_at l.high b))
