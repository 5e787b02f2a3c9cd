-- From bytes to numbered lines of words. Source: BLIF: comments, blanks, and lines that a backslash joins.
use Rattle.std.specs.Prelude.{ℕ, ◌+◌, ◌-◌, ◌==◌, Bool, not, ◌||◌, List, [], ◌∷◌, ◌++◌, map, length, take}
use Rattle.std.specs.Prelude.{filter, slice_index, position, Option, Some, None, if◌then◌else◌}
use Rattle.std.specs.List.{slice_split, suffix_len}
use Rattle.semantics.specs.Texts.{Bytes, Line}

-- a space, a tab or a CR
abbrev pub is_blank : ℕ → Bool
is_blank b = b == 32 || b == 9 || b == 13

-- the lines between the LFs
abbrev pub physical_lines : Bytes → List Bytes
physical_lines text = slice_split (λ b. b == 10) text

-- what stands before the first `#`
abbrev pub without_comment : Bytes → Bytes
without_comment line = elim (position (λ b. b == 35) line) [ None ↦ line | Some at ↦ take at line ]

-- without the blanks at its end
abbrev pub trimmed : Bytes → Bytes
trimmed line = take (length line - suffix_len is_blank line) line

-- what stands before the backslash, where that is the last byte that is no blank
abbrev pub before_backslash : Bytes → Option Bytes
before_backslash line =
    let kept = trimmed line in
    if slice_index kept (length kept - 1) == 92 then Some (take (length kept - 1) kept) else None

-- the bytes of physical lines that were joined, and the number of the first of them, from 1
pub record LogicalLine : Type 0 where
  pub number : ℕ
  pub bytes : Bytes

-- the line joined to the first of the logical lines, which takes the number of `line`; where there is no
-- logical line, it stands alone
abbrev pub joined_before : LogicalLine → List LogicalLine → List LogicalLine
joined_before line [] = line ∷ []
joined_before line (next ∷ lines) = record line { bytes = line.bytes ++ next.bytes } ∷ lines

-- a physical line before the logical lines of those after it
abbrev pub line_before : ℕ → Bytes → List LogicalLine → List LogicalLine
line_before number line lines =
    elim (before_backslash line) [
      | None ↦ record { number = number; bytes = line } ∷ lines
      | Some bytes ↦ joined_before (record { number = number; bytes = bytes }) lines
    ]

-- the logical lines of physical lines, of which the first has this number
abbrev pub logical_from : ℕ → List Bytes → List LogicalLine
logical_from number [] = []
logical_from number (line ∷ lines)
    = line_before number (without_comment line) (logical_from (number + 1) lines)

unfoldable pub logical_lines : Bytes → List LogicalLine
logical_lines text = logical_from 1 (physical_lines text)

-- the words of a line, which blanks separate
abbrev pub words_of : Bytes → Line
words_of line = filter (λ w. not (length w == 0)) (slice_split is_blank line)

-- a line with words, and its number
pub record Statement : Type 0 where
  pub line : ℕ
  pub words : Line

-- a line without words means nothing
abbrev pub statements : List LogicalLine → List Statement
statements lines = filter (λ s. not (length s.words == 0))
    (map (λ l. record { line = l.number; words = words_of l.bytes }) lines)
