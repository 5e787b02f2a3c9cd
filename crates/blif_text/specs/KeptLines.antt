-- The lines of which a net is made, kept as they are read: of rows no more than one past the limit.
use Rattle.std.specs.Prelude.{◌≡◌, ℕ, ◌+◌, Bool, true, false, min, nat_le, List, []}
use Rattle.std.specs.Prelude.{◌∷◌, ◌++◌, map, count_by, Option, None, Result, Ok, Err, if◌then◌else◌}
use Rattle.semantics.specs.declared.limits.TheConstants.{MOST_ROWS}
use Rattle.semantics.specs.declared.which.Which.TheVariants as which
use Rattle.semantics.specs.Texts.{Line}
use Rattle.semantics.specs.Net.{NetValue}
use Rattle.blif_semantics.specs.declared.kind.Kind.{Kind}
use Rattle.blif_semantics.specs.declared.kind.Kind.TheVariants as kind
use Rattle.blif_semantics.specs.Lines.{LogicalLine, words_of}
use Rattle.blif_semantics.specs.Statements.{kind_of, Place, wrong, WrongLine}
use Rattle.blif_semantics.specs.Tables.{NamedTable}
use Rattle.blif_semantics.specs.Reading.{Refusal, limit, wrong_line, unless_refused, NamedNet}
use Rattle.blif_text.specs.LogicalLines.{has_words, with_words, statement_of}
use Rattle.blif_text.specs.Places.{start, place_next, first_wrong_in}

abbrev pub is_row : Kind → Bool
is_row kind.Row = true
is_row _ = false

abbrev pub words_in : List LogicalLine → List Line
words_in lines = map (λ l. words_of l.bytes) lines

-- how many of the lines are rows
abbrev pub rows_in : List Line → ℕ
rows_in lines = count_by (λ words. is_row (kind_of words)) lines

-- the lines without the rows past the first one that is too many, where `rows` rows stand before them
abbrev pub few_rows : ℕ → List LogicalLine → List LogicalLine
few_rows rows [] = []
few_rows rows (line ∷ lines) =
    if is_row (kind_of (words_of line.bytes))
    then (if nat_le rows MOST_ROWS then line ∷ few_rows (rows + 1) lines else few_rows rows lines)
    else line ∷ few_rows rows lines

-- the lines that were kept, the number of rows among them, and the place behind all lines so far
pub record KeptLines : Type 0 where
  pub place : Place
  pub rows : ℕ
  pub lines : List LogicalLine

-- the line has words and is not wrong at its place; the place behind it, and whether it is a row, are these
pub record IsRightLine (place : Place) (line : LogicalLine) (behind : Place) (is_a_row : Bool) : Type 0 where
  pub words : has_words line ≡ true
  pub right : wrong place (words_of line.bytes) ≡ None
  pub next : behind ≡ place_next place (words_of line.bytes)
  pub row : is_a_row ≡ is_row (kind_of (words_of line.bytes))

-- a line is kept, but for a row past the first one that is too many
abbrev pub kept : KeptLines → LogicalLine → Place → Bool → KeptLines
kept k line behind false = record { place = behind; rows = k.rows; lines = k.lines ++ line ∷ [] }
kept k line behind true =
    if nat_le k.rows MOST_ROWS then record { place = behind; rows = k.rows + 1; lines = k.lines ++ line ∷ [] }
    else record k { place = behind }

abbrev pub nothing_kept : KeptLines
nothing_kept = record { place = start; rows = 0; lines = [] }

-- what kept lines come to with all lines that follow: the first wrong one, those that are kept, and the
-- number of rows, counted up to the first one that is too many
pub record Outcome : Type 0 where
  pub wrong : Option WrongLine
  pub lines : List LogicalLine
  pub rows : ℕ

abbrev pub outcome : KeptLines → List LogicalLine → Outcome
outcome k rest = record {
  wrong = first_wrong_in k.place (map statement_of (with_words rest));
  lines = k.lines ++ few_rows k.rows (with_words rest);
  rows = min (k.rows + rows_in (words_in (with_words rest))) (MOST_ROWS + 1);
}

-- the refusal of the first wrong line, where there is one
abbrev pub unless_wrong : Option WrongLine → Result NetValue Refusal → Result NetValue Refusal
unless_wrong wrong rest = unless_refused wrong (λ w. wrong_line w.line w.wrong) rest

-- a table, and a net, without its rows
abbrev pub table_without_rows : NamedTable → NamedTable
table_without_rows t = record t { rows = []; plane = true }

abbrev pub without_rows : NamedNet → NamedNet
without_rows d = record d { tables = map table_without_rows d.tables }

-- the refusal of a net of too many rows, by what its net without rows is read as
abbrev pub refused_for_rows : Result NetValue Refusal → Result NetValue Refusal
refused_for_rows (Ok N) = Err (limit which.Rows)
refused_for_rows (Err refusal) = Err refusal
