-- Sets of input vectors, and the rows of bits that hold them. Source: bit-parallel simulation: one row for
-- each input, one bit for each vector.
use Rattle.std.specs.Prelude.{◌≡◌, ℕ, ◌≤◌, Bool, false, List, [], map, length, slice_index_or}
use Rattle.std.specs.List.{AllByRecursion, range_with_len}
use Rattle.semantics.specs.declared.limits.TheConstants.{MOST_INPUTS}
use Rattle.lane_bits.specs.Rows.{row_bit, word_count}

-- a list of vectors, each of `inputs` bits
pub record PatternSet : Type 0 where
  pub inputs : ℕ
  pub vectors : List (List Bool)

pub record IsPatternSet (s : PatternSet) : Type 0 where
  pub few : s.inputs ≤ MOST_INPUTS
  pub widths : AllByRecursion (λ x. length x ≡ s.inputs) s.vectors

-- an input's bit in a vector; past the last vector it is 0
abbrev pub pattern_bit : List (List Bool) → ℕ → ℕ → Bool
pattern_bit vectors input p = slice_index_or (slice_index_or vectors p []) input false

-- the input's bits in all vectors, in the least number of words that hold them
pub record IsRowOf (vectors : List (List Bool)) (input : ℕ) (row : List ℕ) : Type 0 where
  pub words : length row ≡ word_count (length vectors)
  pub bits : (p : ℕ) → row_bit row p ≡ pattern_bit vectors input p

-- the bits at one position of all rows
abbrev pub vector_at : List (List ℕ) → ℕ → List Bool
vector_at rows p = map (λ row. row_bit row p) rows

-- the vectors at the first positions
abbrev pub vectors_in : List (List ℕ) → ℕ → List (List Bool)
vectors_in rows count = map (vector_at rows) (range_with_len 0 count)
