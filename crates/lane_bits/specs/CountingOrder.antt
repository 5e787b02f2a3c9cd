-- The rows of the counting order: vector p has bit i of p at input i.
use Rattle.std.specs.Prelude.{◌≡◌, ◌==◌, ℕ, ◌<◌, ◌≤◌, false, List, [], length, slice_index}
use Rattle.std.specs.Prelude.{slice_index_or}
use Rattle.std.specs.Int.{bit_at}
use Rattle.lane_bits.specs.Rows.{row_bit, word_count}

-- the row of an input at the first `count` vectors of the counting order, with no bit past them
pub record IsCountingRow (input count : ℕ) (row : List ℕ) : Type 0 where
  pub words : length row ≡ word_count count
  pub bits : (p : ℕ) → p < count → row_bit row p ≡ (bit_at p input == 1)
  pub clear : (p : ℕ) → count ≤ p → row_bit row p ≡ false

pub record AreCountingRows (inputs count : ℕ) (rows : List (List ℕ)) : Type 0 where
  pub all : length rows ≡ inputs
  pub each : (i : ℕ) → i < length rows → IsCountingRow i count (slice_index_or rows i [])

-- the row of each input is the counting row of its place
pub record ArePlacedRows (inputs count : ℕ) (order : List ℕ) (rows : List (List ℕ)) : Type 0 where
  pub all : length rows ≡ inputs
  pub each : (i : ℕ) → i < length rows → (place : ℕ) × (place < length order)
      × (slice_index order place ≡ i) × IsCountingRow place count (slice_index_or rows i [])
