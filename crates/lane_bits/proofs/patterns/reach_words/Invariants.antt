use Rattle.std.proofs.Common.{◌≡◌, ◌<◌, ◌≤◌, ℕ, length}
use Rattle.lane_bits.specs.Store.{IsGrownFrom, row_at}
use Rattle.lane_bits.proofs.patterns.reach_words.Given as goal

abbrev pub invariant-loop-row : goal.invariant-loop-row
invariant-loop-row l = record {
  grown : (k : ℕ) → k < l.row-index → IsGrownFrom (row_at l.initial.rows k) (row_at l.rows k);
  room : (k : ℕ) → k < l.row-index → l.words ≤ length (row_at l.rows k);
  rest : (k : ℕ) → l.row-index ≤ k → row_at l.rows k ≡ row_at l.initial.rows k;
}
