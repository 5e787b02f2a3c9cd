-- Lists of bits at 64 patterns at a time: one word for each bit of the list, one lane for each pattern.
-- Source: bit-parallel simulation.
use Rattle.std.specs.Prelude.{◌≡◌, ◌↔◌, ℕ, ◌+◌, ◌*◌, ◌<◌, nat_lt, Bool, List, map, length, slice_index}
use Rattle.semantics.specs.Net.{NetValue}
use Rattle.semantics.specs.Value.{outputs_of}
use Rattle.semantics.specs.Error.{bit_number}
use Rattle.lane_bits.specs.Rows.{word_count}
use Rattle.lane_bits.specs.Patterns.{PatternSet}
use Rattle.lane_nets.specs.Words.{word_bit}
use Rattle.lane_nets.specs.Blocks.{vector_at, row_at}

-- the bits of one pattern
abbrev pub lane_at : List ℕ → ℕ → List Bool
lane_at words b = map (λ word. word_bit word b) words

abbrev pub lane_number : ℕ → ℕ → ℕ
lane_number word b = bit_number (word_bit word b)

-- the words of the outputs, out of those of all signals
abbrev pub output_words : NetValue → List ℕ → List ℕ
output_words N words = map (slice_index words) N.outputs

-- word j tells at lane b whether n is more than j
abbrev pub HasReached : List ℕ → ℕ → ℕ → Type 0
HasReached words b n = (j : ℕ) → j < length words → word_bit (slice_index words j) b ≡ nat_lt j n

-- how the bits so far compare: the carry of a sum, and 1 where the number it is compared with is above it
pub record BitsSoFar : Type 0 where
  pub carry : ℕ
  pub above : ℕ

abbrev pub lane_so_far : ℕ → ℕ → ℕ → BitsSoFar
lane_so_far carry above b = record { carry = lane_number carry b; above = lane_number above b }

-- how the comparison of two numbers goes on once their lowest bits are taken off, and that of what is added
-- to the first
abbrev pub GoesOn : (low high one : ℕ) → (before after : BitsSoFar) → Type 0
GoesOn low high one before after =
    (x y : ℕ) → (low + 2 * x + one + before.carry < high + 2 * y + before.above)
    ↔ (x + after.carry < y + after.above)

-- the words of the net's outputs in block k
pub record IsOutputBlock (N : NetValue) (vectors : List (List Bool)) (k : ℕ) (words : List ℕ) : Type 0 where
  pub width : length words ≡ length N.outputs
  pub lanes : (b : ℕ) → b < 64 → lane_at words b ≡ outputs_of N (vector_at vectors (64 * k + b))

-- the net's outputs at each pattern, in blocks of 64
pub record AreOutputWordsOf (N : NetValue) (vectors : List (List Bool))
    (blocks : List (List ℕ)) : Type 0 where
  pub count : length blocks ≡ word_count (length vectors)
  pub widths : (k : ℕ) → k < length blocks → length (row_at blocks k) ≡ length N.outputs
  pub are : (k b : ℕ) → k < length blocks → b < 64
      → lane_at (row_at blocks k) b ≡ outputs_of N (vector_at vectors (64 * k + b))

-- an exact net and a set of patterns
pub record ReferenceValue : Type 0 where
  pub exact : NetValue
  pub patterns : PatternSet
