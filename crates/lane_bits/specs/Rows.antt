-- Rows of bits: bit p of a row is bit p % 64 of its word p / 64. Source: bit-parallel simulation, 64 patterns
-- a word.
use Rattle.std.specs.Prelude.{◌≡◌, ℕ, ◌/◌, ◌%◌, ◌<◌, ◌==◌, Bool, true, false, not, List, slice_index}
use Rattle.std.specs.Int.{bit_at}
use Rattle.semantics.specs.Error.{rounded_up}

-- past the end of the row the bits are 0
unfoldable pub row_bit : List ℕ → ℕ → Bool
row_bit row p = bit_at (slice_index row (p / 64)) (p % 64) == 1

-- a truth value, turned over where the flag says so
abbrev pub turned : Bool → Bool → Bool
turned false b = b
turned true b = not b

-- the number of words that `count` bits take
abbrev pub word_count : ℕ → ℕ
word_count count = rounded_up count 64

-- none of the first `count` bits is 1
abbrev pub HasNoneSet : List ℕ → ℕ → Type 0
HasNoneSet row count = (p : ℕ) → p < count → row_bit row p ≡ false

-- p is the least position below `count` whose bit is 1
pub record IsFirstSet (row : List ℕ) (count p : ℕ) : Type 0 where
  pub within : p < count
  pub set : row_bit row p ≡ true
  pub before : (q : ℕ) → q < p → row_bit row q ≡ false
