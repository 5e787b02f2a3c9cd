use Rattle.std.proofs.Common.{ℕ, ◌↔◌, ◌+◌, ◌<◌, drop, get_or}
use Rattle.semantics.specs.Error.{number_of}
use Rattle.lane_nets.specs.Lanes.{lane_at, lane_number}
use Rattle.lane_nets.specs.Wide.{lane_words}
use Rattle.lane_nets.specs.Numbers.{wide_number}
use Rattle.lane_nets.proofs.wide_numbers.sum_below_wide.Given as goal

-- the comparison of the bits that are left, with the carry and with how the bits so far compare, is that of
-- the whole numbers
abbrev pub invariant-loop-i : goal.invariant-loop-i
invariant-loop-i l =
    (j b : ℕ) → j < 8 → b < 64
    → (number_of (lane_at (drop l.i (lane_words l.first j)) b) + number_of (lane_at (drop l.i (lane_words l.second j)) b) + lane_number (get_or l.so_far.carry j 0) b
    < number_of (lane_at (drop l.i (lane_words l.high j)) b) + lane_number (get_or l.so_far.above j 0) b)
    ↔ (wide_number l.first j b + wide_number l.second j b < wide_number l.high j b)
