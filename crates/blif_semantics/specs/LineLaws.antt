-- How lines come together: lines that a backslash joins, lists of names in several lines, and the rows of a
-- table.
use Rattle.std.specs.Prelude.{◌≡◌, ◌≢◌, ◌⊎◌, true, List, [], ◌∷◌, ◌++◌, map, length, reverse, codes, Some}
use Rattle.std.specs.Prelude.{None, All}
use Rattle.std.specs.List.{AllByRecursion}
use Rattle.semantics.specs.Texts.{Bytes, Line}
use Rattle.blif_semantics.specs.declared.kind.Kind.TheVariants as kind
use Rattle.blif_semantics.specs.Lines.{is_blank, before_backslash, LogicalLine, logical_lines, Statement}
use Rattle.blif_semantics.specs.Statements.{kind_of, arguments, OpenTable, table_before, first_wrong}
use Rattle.blif_semantics.specs.Tables.{NamedTable, named, with_rows, rows_first, tables_of}
use Rattle.blif_semantics.specs.Reading.{named_net}

-- nothing, or lines each of which has its LF
abbrev pub AreWholeLines : Bytes → Type 0
AreWholeLines text = (text ≡ []) ⊎ ((lines : Bytes) × (text ≡ lines ++ 10 ∷ []))

abbrev pub texts_of : List LogicalLine → List Bytes
texts_of lines = map (λ l. l.bytes) lines

-- A backslash behind a line, together with the blanks behind it and the LF, means nothing: what follows goes
-- on where the line stood, in the middle of a word where the line ends in one. This holds of a line that has
-- no comment and does not itself end in a backslash.
abbrev pub JoinLaw : Type 0
JoinLaw = (before line blanks after : Bytes) → AreWholeLines before → All (λ b. (b ≢ 10) × (b ≢ 35)) line
    → before_backslash line ≡ None
    → All (λ b. is_blank b ≡ true) blanks
    → texts_of (logical_lines (before ++ (line ++ 92 ∷ (blanks ++ 10 ∷ after))))
    ≡ texts_of (logical_lines (before ++ (line ++ after)))

-- the inputs are the names of all `.inputs` lines in order, and the outputs those of all `.outputs` lines
pub record ListLaw : Type 0 where
  pub inputs_joined : (lines more : List Line)
      → (named_net (lines ++ more)).inputs ≡ (named_net lines).inputs ++ (named_net more).inputs
  pub inputs_line : (names : List Bytes) → (named_net ((codes ".inputs" ∷ names) ∷ [])).inputs ≡ names
  pub no_inputs_line : (words : Line) → kind_of words ≢ kind.Inputs → (named_net (words ∷ [])).inputs ≡ []
  pub outputs_joined : (lines more : List Line)
      → (named_net (lines ++ more)).outputs ≡ (named_net lines).outputs ++ (named_net more).outputs
  pub outputs_line : (names : List Bytes) → (named_net ((codes ".outputs" ∷ names) ∷ [])).outputs ≡ names
  pub no_outputs_line : (words : Line) → kind_of words ≢ kind.Outputs → (named_net (words ∷ [])).outputs ≡ []

-- what the judgement of the next row needs of the table
abbrev pub opened : NamedTable → OpenTable
opened t = record { pins = length t.pins; plane = elim t.rows [ [] ↦ None | row ∷ rows ↦ Some t.plane ] }

-- The row stands behind a `.names` line with nothing but rows between. The row is judged by that line's table
-- as the rows between made it, and is that table's next row.
pub record IsRowOfTable (before : List Line) (row : Line) (after : List Line) : Type 0 where
  pub front : List Line
  pub names : Line
  pub rows : List Line
  pub split : before ≡ front ++ names ∷ rows
  pub is_table : kind_of names ≡ kind.Names
  pub are_rows : AllByRecursion (λ words. kind_of words ≡ kind.Row) rows
  pub judged_by : table_before (reverse before) ≡ Some (opened (with_rows (named (arguments names)) rows))
  pub tables : tables_of (before ++ row ∷ after)
      ≡ tables_of front ++ with_rows (named (arguments names)) (rows ++ row ∷ rows_first after)
      ∷ tables_of after

-- where no line is wrong, each row is one of the table of the nearest line before it that is no row
abbrev pub RowLaw : Type 0
RowLaw = (before : List Statement) (s : Statement) (after : List Statement)
    → first_wrong (before ++ s ∷ after) ≡ None → kind_of s.words ≡ kind.Row
    → IsRowOfTable (map (λ s. s.words) before) s.words (map (λ s. s.words) after)
