use Rattle.std.proofs.Common.{◌≡◌, ◌==◌, ℕ, ◌+◌, ◌*◌, ◌<◌, get_or}
use Rattle.std.specs.Int.{bit_at}
use Rattle.lane_bits.proofs.counting_rows.set_counting.Given as goal

abbrev pub invariant-loop-k : goal.invariant-loop-k
invariant-loop-k l = (j : ℕ) → j < l.k → (b : ℕ) → b < 64 → (bit_at (get_or l.row j 0) b == 1) ≡ (bit_at (64 * j + b) l.input == 1)
