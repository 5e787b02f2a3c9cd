-- The line at which a text is refused. Lines are counted from 1, and a line whose number is not below 2 ^ 64
-- - 1 is told as 2 ^ 64 - 1.
use Rattle.std.specs.Prelude.{◌≡◌, ℕ, ◌+◌, ◌-◌, ◌^◌, ◌&&◌, min, not, Bool, if◌then◌else◌, List, [], ◌∷◌, map}
use Rattle.std.specs.Prelude.{filter, find, option_map, Option, None, Some}
use Rattle.std.specs.Borrow.{Bor}
use Rattle.std.specs.List.{list_all, list_any, enumerate_from}
use Rattle.std.specs.Option.{is_some}
use Rattle.semantics.specs.Texts.{Bytes}
use Rattle.blif_semantics.specs.Lines.{is_blank, physical_lines, words_of}
use Rattle.solve_cnf.specs.Reading.{Header, is_comment, header_of, wrong_word}
use Rattle.solve_cnf.specs.declared.formula_error.ReadError.{ReadError}
use Rattle.solve_cnf.specs.declared.formula_error.ReadError.TheVariants as e

-- the lines that are no comments and have more than blanks, each behind the number of lines of the text
-- before it
abbrev pub numbered_lines : Bytes → List (ℕ × Bytes)
numbered_lines text = filter (λ (l : ℕ × Bytes). not (is_comment l.1) && not (list_all is_blank l.1))
    (enumerate_from 0 (physical_lines text))

-- the lines of borrowed lines, each behind that number
abbrev pub line_values : List (ℕ × Bor Bytes) → List (ℕ × Bytes)
line_values lines = map (λ (l : ℕ × Bor Bytes). (l.0, l.1.now)) lines

-- the number of the line behind the first `before` lines
abbrev pub line_number : ℕ → ℕ
line_number before = min (before + 1) (2 ^ 64 - 1)

-- whether a word is no number, or a literal of no variable
abbrev pub is_wrong : ℕ → Bytes → Bool
is_wrong variables word = is_some (wrong_word variables word)

abbrev pub has_wrong : ℕ → List Bytes → Bool
has_wrong variables words = list_any (is_wrong variables) words

-- the number of a line, where there is something wrong
abbrev pub place_if : Bool → ℕ → Option ℕ
place_if wrong line = if wrong then Some line else None

-- the number of the first line with a wrong word
abbrev pub wrong_line : ℕ → List (ℕ × Bytes) → Option ℕ
wrong_line variables lines
    = option_map (λ (l : ℕ × Bytes). line_number l.0)
    (find (λ (l : ℕ × Bytes). has_wrong variables (words_of l.1)) lines)

-- the number of the first line, where this is no header, and else that of the first line with a wrong word
abbrev pub place_behind : ℕ → Option Header → List (ℕ × Bytes) → Option ℕ
place_behind line None lines = Some line
place_behind line (Some header) lines = wrong_line header.variables lines

abbrev pub refused_place : List (ℕ × Bytes) → Option ℕ
refused_place [] = None
refused_place (first ∷ lines) = place_behind (line_number first.0) (header_of (words_of first.1)) lines

unfoldable pub refused_line : Bytes → Option ℕ
refused_line text = refused_place (numbered_lines text)

-- the line that a refusal names
abbrev pub line_of : ReadError → Option ℕ
line_of e.NoHeader = None
line_of (e.BadHeader line) = Some line
line_of (e.NoNumber line) = Some line
line_of (e.NoVariable line) = Some line
line_of e.Unended = None
line_of (e.WrongCount told found) = None
line_of e.OutOfMemory = None

-- if the refusal names a line, it is this line
abbrev pub Names : ReadError → Option ℕ → Type 0
Names told place = (line : ℕ) → line_of told ≡ Some line → place ≡ Some line
