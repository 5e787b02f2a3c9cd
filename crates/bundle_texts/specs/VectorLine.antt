-- The line of an input vector that is at hand. Source: this tool's own format, `STEM.wit`.
use Rattle.std.specs.Prelude.{ℕ, ◌==◌, nat_lt, ◌&&◌, Bool, true, false, List, [], ◌∷◌, ◌++◌, length}
use Rattle.std.specs.Prelude.{slice_index_or, if◌then◌else◌}
use Rattle.semantics.specs.Texts.{bit_byte}
use Rattle.bundle_texts.specs.Pieces.{is_bit_digit}
use Rattle.bundle_texts.specs.VectorsTaken.{TakenValue}

-- the bits of the line that has not ended, and whether a line has ended before it
pub record LineValue : Type 0 where
  pub inputs : ℕ
  pub begun : List Bool
  pub has_ended : Bool

-- what the line at hand holds of all that was taken
abbrev pub line_of : TakenValue → LineValue
line_of v = record { inputs = v.inputs; begun = v.begun; has_ended = nat_lt 0 (length v.vectors) }

-- the byte may come next, where the first line is to be the witness's
abbrev pub is_next : List Bool → LineValue → ℕ → Bool
is_next witness l byte =
    if length l.begun == length witness then byte == 10
    else (if l.has_ended then is_bit_digit byte
    else byte == bit_byte (slice_index_or witness (length l.begun) false))

-- a line end ends the line, and a digit is its next bit
abbrev pub line_after : LineValue → ℕ → LineValue
line_after l byte =
    if length l.begun == l.inputs
    then record l { begun = []; has_ended = true }
    else record l { begun = l.begun ++ (byte == 49) ∷ [] }

-- the last line has ended, and there is one
abbrev pub is_whole : LineValue → Bool
is_whole l = (length l.begun == 0) && l.has_ended
