use Rattle.std.proofs.Common.{ℕ, ◌↔◌, ◌<◌, IsTrue, get_or}
use Rattle.lane_nets.specs.Words.{word_bit}
use Rattle.lane_nets.specs.Numbers.{wide_bit, number_below}
use Rattle.lane_nets.proofs.wide_relative.some_wide.Given as goal

abbrev pub invariant-loop-wide : goal.invariant-loop-wide
invariant-loop-wide l = (j b : ℕ) → j < 8 → b < 64 → IsTrue (word_bit (get_or l.some j 0) b) ↔ (0 < number_below (wide_bit l.number j b) l.wide-index)
