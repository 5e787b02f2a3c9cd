-- The AND circuit of a net: table by table and row by row, joined from left to right, and nothing is folded.
-- Source: AIGER; the order is this tool's own.
use Rattle.std.specs.Prelude.{ℕ, zero, suc, ◌+◌, ◌-◌, if◌then◌else◌, nat_lt, List, [], ◌∷◌, ◌++◌, map}
use Rattle.std.specs.Prelude.{length, take, sum_by}
use Rattle.std.specs.List.{range_with_len}
use Rattle.semantics.specs.declared.mark.Mark.{Mark}
use Rattle.semantics.specs.declared.mark.Mark.TheVariants.{Zero, One, Dash}
use Rattle.semantics.specs.Net.{TableValue, NetValue, table_at, input_count, signal_names, name_of}
use Rattle.semantics.specs.Net.{row_literals}
use Rattle.aiger_semantics.specs.declared.and_line.AndLine.{AndLine}
use Rattle.aiger_semantics.specs.Circuit.{CircuitValue, literal_of_variable, negated}

-- a literal for each signal
abbrev pub Literals : Type 0
Literals = ℕ → ℕ

-- Literals are joined from left to right. Each line has the next variable, and joins the literal so far and
-- the next literal.
abbrev pub joins_after : ℕ → ℕ → List ℕ → List AndLine
joins_after next so_far [] = []
joins_after next so_far (literal ∷ literals) =
    record { variable = next; left = so_far; right = literal }
    ∷ joins_after (next + 1) (literal_of_variable next) literals

abbrev pub joins : ℕ → List ℕ → List AndLine
joins next [] = []
joins next (literal ∷ literals) = joins_after next literal literals

-- the literal of the conjunction of the literals: a single literal is itself, and no literals give 1
abbrev pub joined_after : ℕ → ℕ → List ℕ → ℕ
joined_after next so_far [] = so_far
joined_after next so_far (literal ∷ literals) = joined_after (next + 1) (literal_of_variable next) literals

abbrev pub joined : ℕ → List ℕ → ℕ
joined next [] = 1
joined next (literal ∷ literals) = joined_after next literal literals

-- what a mark asks for of a pin's literal
abbrev pub marked : Mark → ℕ → List ℕ
marked Zero literal = negated literal ∷ []
marked One literal = literal ∷ []
marked Dash literal = []

-- what a row asks for, in the order of the pins
abbrev pub row_inputs : Literals → List Mark → List ℕ → List ℕ
row_inputs literals [] pins = []
row_inputs literals (m ∷ marks) [] = []
row_inputs literals (m ∷ marks) (s ∷ pins) = marked m (literals s) ++ row_inputs literals marks pins

-- the number of AND lines of a row, of rows and of a table
abbrev pub row_ands : List Mark → ℕ
row_ands marks = row_literals marks - 1

abbrev pub rows_ands : List (List Mark) → ℕ
rows_ands rows = sum_by row_ands rows

abbrev pub table_ands : TableValue → ℕ
table_ands t = rows_ands t.rows + (length t.rows - 1)

-- the lines of rows, and the literal of each row
abbrev pub rows_joins : Literals → ℕ → List ℕ → List (List Mark) → List AndLine
rows_joins literals next pins [] = []
rows_joins literals next pins (marks ∷ rows)
    = joins next (row_inputs literals marks pins) ++ rows_joins literals (next + row_ands marks) pins rows

abbrev pub rows_joined : Literals → ℕ → List ℕ → List (List Mark) → List ℕ
rows_joined literals next pins [] = []
rows_joined literals next pins (marks ∷ rows)
    = joined next (row_inputs literals marks pins) ∷ rows_joined literals (next + row_ands marks) pins rows

-- A table joins the opposites of its rows; the opposite of their conjunction is the disjunction of the rows.
abbrev pub no_rows : Literals → ℕ → TableValue → List ℕ
no_rows literals next t = map negated (rows_joined literals next t.pins t.rows)

abbrev pub table_joins : Literals → ℕ → TableValue → List AndLine
table_joins literals next t
    = rows_joins literals next t.pins t.rows ++ joins (next + rows_ands t.rows) (no_rows literals next t)

abbrev pub disjunction : Literals → ℕ → TableValue → ℕ
disjunction literals next t = negated (joined (next + rows_ands t.rows) (no_rows literals next t))

-- the disjunction, negated for plane 0
abbrev pub table_literal : Literals → ℕ → TableValue → ℕ
table_literal literals next t
    = if t.plane then disjunction literals next t else negated (disjunction literals next t)

-- The variables 1 to n are the inputs, and then those of the AND lines follow, table by table.
abbrev pub first_variable : ℕ → List TableValue → ℕ → ℕ
first_variable n tables i = n + 1 + sum_by table_ands (take i tables)

abbrev pub input_literal : ℕ → ℕ
input_literal s = literal_of_variable (s + 1)

-- The literal of a signal, from the literals of a table's pins. As many rounds as there are tables give each
-- signal of acyclic tables its literal: the law of circuits of nets says what the literals are.
unfoldable pub after_rounds : ℕ → List TableValue → ℕ → Literals
after_rounds n tables zero = input_literal
after_rounds n tables (suc rounds) = λ s.
    if nat_lt s n then input_literal s
    else table_literal (after_rounds n tables rounds) (first_variable n tables (s - n))
    (table_at tables (s - n))

unfoldable pub signal_literal : ℕ → List TableValue → Literals
signal_literal n tables = after_rounds n tables (length tables)

-- the lines of tables
abbrev pub tables_joins : Literals → ℕ → List TableValue → List AndLine
tables_joins literals next [] = []
tables_joins literals next (t ∷ tables)
    = table_joins literals next t ++ tables_joins literals (next + table_ands t) tables

unfoldable pub ands_of : NetValue → CircuitValue
ands_of N = record {
  inputs = range_with_len 1 (input_count N);
  ands = tables_joins (signal_literal (input_count N) N.tables) (input_count N + 1) N.tables;
  outputs = map (signal_literal (input_count N) N.tables) N.outputs;
  input_names = N.inputs;
  output_names = map (name_of (signal_names N)) N.outputs;
}
