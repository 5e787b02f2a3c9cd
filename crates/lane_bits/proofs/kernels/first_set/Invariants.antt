use Rattle.std.proofs.Common.{◌≡◌, ℕ, ◌*◌, ◌<◌, false}
use Rattle.lane_bits.specs.Rows.{row_bit}
use Rattle.lane_bits.proofs.kernels.first_set.Given as goal

abbrev pub invariant-loop-k : goal.invariant-loop-k
invariant-loop-k l = (q : ℕ) → q < 64 * l.k → row_bit l.row q ≡ false
