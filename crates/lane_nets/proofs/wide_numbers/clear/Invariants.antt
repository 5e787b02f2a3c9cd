use Rattle.std.proofs.Common.{◌≡◌, ℕ, ◌<◌}
use Rattle.lane_nets.specs.Numbers.{wide_bit, number_below}
use Rattle.lane_nets.proofs.wide_numbers.clear.Given as goal

abbrev pub invariant-loop-i : goal.invariant-loop-i
invariant-loop-i l = (j b : ℕ) → j < 8 → b < 64 → number_below (wide_bit l.total j b) l.i ≡ 0
