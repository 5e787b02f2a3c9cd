-- The lines of an ASCII AIGER text, and the numbers in them. Source: AIGER; that a CR may stand before the
-- end of a line is this tool's own.
use Rattle.std.specs.Prelude.{ℕ, ◌-◌, ◌==◌, nat_le, ◌&&◌, List, [], ◌∷◌, map, length, take, slice_index}
use Rattle.std.specs.Prelude.{slice_index_or, Option, Some, None, option_map, if◌then◌else◌}
use Rattle.std.specs.List.{slice_split}
use Rattle.semantics.specs.Texts.{Bytes}
use Rattle.semantics.specs.Decimal.{is_decimal, digits_number}

-- without the CR at its end, if there is one
abbrev pub without_return : Bytes → Bytes
without_return line = if slice_index line (length line - 1) == 13 then take (length line - 1) line else line

-- what stands behind the last LF is a line only if it has bytes
abbrev pub without_empty_end : List Bytes → List Bytes
without_empty_end lines = if length (slice_index_or lines (length lines - 1) []) == 0
    then take (length lines - 1) lines else lines

-- the lines that LF ends, and the last one, which needs none
abbrev pub text_lines : Bytes → List Bytes
text_lines text = map without_return (without_empty_end (slice_split (λ b. b == 10) text))

-- what stands between single blanks
abbrev pub pieces : Bytes → List Bytes
pieces line = slice_split (λ b. b == 32) line

-- a decimal number up to the limit
abbrev pub number_to : ℕ → Bytes → Option ℕ
number_to most word = if is_decimal word
    && nat_le (digits_number word) most then Some (digits_number word) else None

-- the numbers of words that all are numbers
abbrev pub all_numbers : ℕ → List Bytes → Option (List ℕ)
all_numbers most [] = Some []
all_numbers most (word ∷ words)
    = elim (number_to most word)
    [ None ↦ None | Some n ↦ option_map (λ numbers. n ∷ numbers) (all_numbers most words) ]

-- a line of numbers between single blanks
abbrev pub line_numbers : ℕ → Bytes → Option (List ℕ)
line_numbers most line = all_numbers most (pieces line)
