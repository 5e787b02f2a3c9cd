use Rattle.std.proofs.Common.{◌≡◌, ℕ, ◌+◌, ◌*◌, ◌^◌, ◌<◌, ◌≤◌, [], get_or}
use Rattle.lane_nets.specs.Words.{word_bit}
use Rattle.lane_nets.specs.Numbers.{wide_bit, place_value, number_below}
use Rattle.lane_nets.proofs.wide_numbers.add_shifted.Given as goal

-- the bits so far and the carry are the sum of the bits so far; the bits behind are as they were
abbrev pub invariant-loop-i : goal.invariant-loop-i
invariant-loop-i l = record {
  sum : (j b : ℕ) → j < 8 → b < 64
      → number_below (wide_bit l.total j b) (l.from + l.i) + place_value (word_bit (get_or l.carry j 0) b) (l.from + l.i)
      ≡ number_below (wide_bit l.initial.total j b) (l.from + l.i) + 2 ^ l.from * number_below (wide_bit l.number j b) l.i;
  kept : (k : ℕ) → l.from + l.i ≤ k → get_or l.total k [] ≡ get_or l.initial.total k [];
}
