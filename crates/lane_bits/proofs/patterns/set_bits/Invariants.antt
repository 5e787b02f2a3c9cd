use Rattle.std.proofs.Common.{◌≡◌, ◌<◌, ◌≤◌, ◌==◌, ◌&&◌, ◌||◌, false, ℕ, length, get_or}
use Rattle.lane_bits.specs.Rows.{row_bit}
use Rattle.lane_bits.specs.Store.{row_at}
use Rattle.lane_bits.proofs.patterns.set_bits.Given as goal

abbrev pub invariant-loop-i : goal.invariant-loop-i
invariant-loop-i l = record {
  lengths : (k : ℕ) → k < l.i → length (row_at l.rows k) ≡ length (row_at l.initial.rows k);
  bits : (k : ℕ) → k < l.i → (q : ℕ) → row_bit (row_at l.rows k) q ≡ (((q == l.p) && get_or l.x k false) || row_bit (row_at l.initial.rows k) q);
  rest : (k : ℕ) → l.i ≤ k → row_at l.rows k ≡ row_at l.initial.rows k;
}
