-- One row of several that stand one behind another.
use Rattle.std.specs.Prelude.{◌≡◌, ℕ, ◌+◌, ◌*◌, ◌<◌, Bool, List}
use Rattle.lane_bits.specs.Rows.{row_bit}

-- the bits of the row that starts at this word
abbrev pub bit_from : List ℕ → ℕ → ℕ → Bool
bit_from rows start p = row_bit rows (64 * start + p)

-- no bit before this word changes
abbrev pub StaysBefore : ℕ → List ℕ → List ℕ → Type 0
StaysBefore start old new = (q : ℕ) → q < 64 * start → row_bit new q ≡ row_bit old q
