-- The tables of lines none of which is wrong, with names in the place of signals. Source: BLIF's `.names` and
-- its rows.
use Rattle.std.specs.Prelude.{ℕ, ◌-◌, ◌==◌, Bool, true, false, List, [], ◌∷◌, ◌++◌, map, length, take}
use Rattle.std.specs.Prelude.{slice_index_or, if◌then◌else◌}
use Rattle.semantics.specs.declared.mark.Mark.{Mark}
use Rattle.semantics.specs.declared.mark.Mark.TheVariants.{Zero, One, Dash}
use Rattle.semantics.specs.Texts.{Bytes, Line}
use Rattle.blif_semantics.specs.declared.kind.Kind.{Kind}
use Rattle.blif_semantics.specs.declared.kind.Kind.TheVariants as kind
use Rattle.blif_semantics.specs.Statements.{kind_of, arguments}

-- a table whose pins are names
pub record NamedTable : Type 0 where
  pub name : Bytes
  pub pins : List Bytes
  pub rows : List (List Mark)
  pub plane : Bool

abbrev pub mark_of : ℕ → Mark
mark_of byte = if byte == 48 then Zero else (if byte == 49 then One else Dash)

abbrev pub last_word : List Bytes → Bytes
last_word words = slice_index_or words (length words - 1) []

-- the marks of a row: none if it has no word but the plane
abbrev pub marks_of : Line → List Mark
marks_of (marks ∷ plane ∷ []) = map mark_of marks
marks_of _ = []

abbrev pub is_one : Bytes → Bool
is_one (byte ∷ []) = byte == 49
is_one _ = false

-- a table without rows: its pins' names, and its own name last
abbrev pub named : List Bytes → NamedTable
named words = record { name = last_word words; pins = take (length words - 1) words; rows = []; plane = true }

abbrev pub with_row : NamedTable → Line → NamedTable
with_row t words = record t { rows = t.rows ++ marks_of words ∷ []; plane = is_one (last_word words) }

abbrev pub with_rows : NamedTable → List Line → NamedTable
with_rows t [] = t
with_rows t (row ∷ rows) = with_rows (with_row t row) rows

abbrev pub if_row : {X : Type 0} → Kind → X → X → X
if_row kind.Row x y = x
if_row _ x y = y

-- the rows that come before any other line
abbrev pub rows_first : List Line → List Line
rows_first [] = []
rows_first (words ∷ lines) = if_row (kind_of words) (words ∷ rows_first lines) []

abbrev pub table_first : Kind → Line → List Line → List NamedTable → List NamedTable
table_first kind.Names words lines rest = with_rows (named (arguments words)) (rows_first lines) ∷ rest
table_first _ words lines rest = rest

-- each `.names` line is a table with the rows that come right after it
abbrev pub tables_of : List Line → List NamedTable
tables_of [] = []
tables_of (words ∷ lines) = table_first (kind_of words) words lines (tables_of lines)
