-- Patterns in blocks of 64, rows of a bit for each pattern, and what is found out block by block. Source:
-- bit-parallel simulation.
use Rattle.std.specs.Prelude.{◌≡◌, ◌↔◌, ℕ, ◌+◌, ◌*◌, ◌<◌, ◌≤◌, Bool, false, List, [], length, slice_index_or}
use Rattle.std.specs.Prelude.{IsTrue}
use Rattle.semantics.specs.Net.{NetValue, signal_count}
use Rattle.lane_bits.specs.Rows.{row_bit, word_count}
use Rattle.lane_nets.specs.Words.{word_bit, HasValues}

abbrev pub vector_at : List (List Bool) → ℕ → List Bool
vector_at vectors p = slice_index_or vectors p []

abbrev pub row_at : List (List ℕ) → ℕ → List ℕ
row_at rows k = slice_index_or rows k []

-- a row with a bit for each pattern, which is 1 exactly where P holds there; the bits past the last pattern
-- are 0
pub record IsRowWhere (vectors : List (List Bool)) (P : List Bool → Type 0) (row : List ℕ) : Type 0 where
  pub words : length row ≡ word_count (length vectors)
  pub bits : (p : ℕ) → p < length vectors → IsTrue (row_bit row p) ↔ P (vector_at vectors p)
  pub clear : (p : ℕ) → length vectors ≤ p → row_bit row p ≡ false

-- block k: each signal's values at the patterns from 64 k on; past the last pattern the inputs are 0
pub record IsBlock (N : NetValue) (vectors : List (List Bool)) (k : ℕ) (words : List ℕ) : Type 0 where
  pub width : length words ≡ signal_count N
  pub values : (b : ℕ) → b < 64 → HasValues N words b (vector_at vectors (64 * k + b))

pub record AreBlocksOf (N : NetValue) (vectors : List (List Bool)) (blocks : List (List ℕ)) : Type 0 where
  pub count : length blocks ≡ word_count (length vectors)
  pub each : (k : ℕ) → k < length blocks → IsBlock N vectors k (row_at blocks k)

-- word k of a row: its bits are 1 exactly at the patterns where P holds
abbrev pub IsWordWhere : List (List Bool) → (List Bool → Type 0) → ℕ → ℕ → Type 0
IsWordWhere vectors P k word =
    (b : ℕ) → b < 64 → IsTrue (word_bit word b)
    ↔ ((64 * k + b < length vectors) × P (vector_at vectors (64 * k + b)))
