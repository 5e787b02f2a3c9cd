-- The clauses of a net: each row is the conjunction of its literals, and each table, or its negation where
-- its plane is 0, the disjunction of its rows. Source: Tseitin's encoding. Variable k + 1 belongs to place k.
-- Signal s stands at place s; behind the signals stand the rows of all tables, in order.
use Rattle.std.specs.Prelude.{ℕ, zero, suc, ◌+◌, Bool, true, false, not, List, [], ◌∷◌, ◌++◌, map, length, ℤ}
use Rattle.std.specs.Prelude.{pos, negsuc, neg_ℤ}
use Rattle.semantics.specs.declared.mark.Mark.{Mark}
use Rattle.semantics.specs.declared.mark.Mark.TheVariants.{Zero, One, Dash}
use Rattle.semantics.specs.Net.{TableValue}
use Rattle.proof_semantics.specs.Clauses.{Clause, with_literals}

-- the variable of a place, or its negation
abbrev pub literal_at : ℕ → Bool → ℤ
literal_at place true = pos (suc place)
literal_at place false = negsuc place

-- what a mark asks of its pin
abbrev pub mark_literals : Mark → ℕ → List ℤ
mark_literals Zero pin = literal_at pin false ∷ []
mark_literals One pin = literal_at pin true ∷ []
mark_literals Dash pin = []

-- what a row asks of the pins, in their order
abbrev pub literals_of_row : List Mark → List ℕ → List ℤ
literals_of_row [] pins = []
literals_of_row (m ∷ marks) [] = []
literals_of_row (m ∷ marks) (pin ∷ pins) = mark_literals m pin ++ literals_of_row marks pins

-- the row at this place implies the literal
abbrev pub implication : ℕ → ℤ → Clause
implication place l = literal_at place false ∷ l ∷ []

-- The row at this place is the conjunction of the literals. Of all clauses only the last one of a row can
-- have a literal twice, where a pin stands twice.
abbrev pub row_clauses : ℕ → List ℤ → List Clause
row_clauses place literals
    = map (implication place) literals ++ with_literals (literal_at place true ∷ []) (map neg_ℤ literals) ∷ []

-- the rows stand from this place on
abbrev pub rows_clauses : ℕ → List ℕ → List (List Mark) → List Clause
rows_clauses first pins [] = []
rows_clauses first pins (marks ∷ rows)
    = row_clauses first (literals_of_row marks pins) ++ rows_clauses (suc first) pins rows

-- each of `count` rows, from the place `first` on, implies the literal
abbrev pub implications : ℕ → ℕ → ℤ → List Clause
implications first zero l = []
implications first (suc count) l = implication first l ∷ implications (suc first) count l

-- the variables of `count` rows, from the place `first` on
abbrev pub variables_from : ℕ → ℕ → List ℤ
variables_from first zero = []
variables_from first (suc count) = literal_at first true ∷ variables_from (suc first) count

-- the table at the place `place`, with its rows from the place `first` on
abbrev pub table_clauses : ℕ → ℕ → TableValue → List Clause
table_clauses place first t =
    rows_clauses first t.pins t.rows
    ++ (implications first (length t.rows) (literal_at place t.plane)
    ++ (literal_at place (not t.plane) ∷ variables_from first (length t.rows)) ∷ [])

abbrev pub tables_clauses : ℕ → ℕ → List TableValue → List Clause
tables_clauses place first [] = []
tables_clauses place first (t ∷ tables)
    = table_clauses place first t ++ tables_clauses (suc place) (first + length t.rows) tables

-- the clauses of the tables over n inputs
unfoldable pub net_clauses : ℕ → List TableValue → List Clause
net_clauses n tables = tables_clauses n (n + length tables) tables

-- the clauses of the tables, and that this signal is true
unfoldable pub goal_clauses : ℕ → List TableValue → ℕ → List Clause
goal_clauses n tables signal = net_clauses n tables ++ (literal_at signal true ∷ []) ∷ []
