-- How many clauses there are.
use Rattle.std.proofs.Common.{◌≡◌, ℕ, zero, suc, ◌+◌, ◌≤◌, true, cond, not, List, [], ◌∷◌, ◌++◌, length, map, refl, ap, sym, ◌∙◌, arith, sum_by, length-append, All, ℤ}
use Rattle.std.proofs.lemmas.List.{length-map}
use Rattle.std.proofs.lemmas.List.Elements.{All-head, All-tail}
use Rattle.std.proofs.lemmas.List.Sums.{sum_by-cons}
use Rattle.semantics.specs.declared.mark.Mark.{Mark}
use Rattle.semantics.specs.declared.mark.Mark.TheVariants.{Zero, One, Dash}
use Rattle.semantics.specs.Net.{TableValue, NetValue, input_count, IsSmall, is_literal, row_literals}
use Rattle.proof_semantics.specs.NetClauses.{literal_at, literals_of_row, implication, row_clauses, rows_clauses, implications, variables_from, table_clauses, tables_clauses, net_clauses}
use Rattle.proof_semantics.specs.NetClauses.{goal_clauses}
use Rattle.proof_semantics.specs.Variables.{variable_count, table_clause_count}

-- a row asks as often as it has marks 0 and 1
pub length-literals_of_row : (marks : List Mark) (pins : List ℕ) → length marks ≡ length pins → length (literals_of_row marks pins) ≡ row_literals marks
length-literals_of_row [] pins h = refl
length-literals_of_row (m ∷ marks) [] h = absurd (omega (arith, h))
length-literals_of_row (m ∷ marks) (pin ∷ pins) h = by_mark m (length-literals_of_row marks pins (omega (arith, h))) where
  by_mark : (m : Mark) → length (literals_of_row marks pins) ≡ row_literals marks → length (literals_of_row (m ∷ marks) (pin ∷ pins)) ≡ row_literals (m ∷ marks)
  by_mark Zero rest = let step : row_literals (Zero ∷ marks) ≡ 1 + row_literals marks = sum_by-cons (λ (k : Mark). cond (is_literal k) 1 0) Zero marks in omega (arith, rest, step)
  by_mark One rest = let step : row_literals (One ∷ marks) ≡ 1 + row_literals marks = sum_by-cons (λ (k : Mark). cond (is_literal k) 1 0) One marks in omega (arith, rest, step)
  by_mark Dash rest = rest

pub length-row_clauses : (place : ℕ) (literals : List ℤ) → length (row_clauses place literals) ≡ length literals + 1
length-row_clauses place literals = length-append (map (implication place) literals) _ ∙ ap (λ n. n + 1) (length-map literals (implication place))

pub length-rows_clauses : (first : ℕ) (pins : List ℕ) (rows : List (List Mark)) → All (λ marks. length marks ≡ length pins) rows
    → length (rows_clauses first pins rows) ≡ sum_by (λ marks. row_literals marks + 1) rows
length-rows_clauses first pins [] h = refl
length-rows_clauses first pins (marks ∷ rows) h =
    let here = length-row_clauses first (literals_of_row marks pins) ∙ ap (λ n. n + 1) (length-literals_of_row marks pins (All-head (λ (m : List Mark). length m ≡ length pins) marks rows h)) in
    let rest = length-rows_clauses (suc first) pins rows (All-tail (λ (m : List Mark). length m ≡ length pins) marks rows h) in
    length-append (row_clauses first (literals_of_row marks pins)) (rows_clauses (suc first) pins rows)
    ∙ cc (here, rest) ∙ sym (sum_by-cons (λ (m : List Mark). row_literals m + 1) marks rows)

pub length-implications : (first count : ℕ) (l : ℤ) → length (implications first count l) ≡ count
length-implications first zero l = refl
length-implications first (suc count) l = ap suc (length-implications (suc first) count l)

pub length-table_clauses : (place first : ℕ) (t : TableValue) → All (λ marks. length marks ≡ length t.pins) t.rows → length (table_clauses place first t) ≡ table_clause_count t
length-table_clauses place first t h =
    let rows = length-rows_clauses first t.pins t.rows h in
    let l : ℤ = literal_at place t.plane in
    let implied = length-implications first (length t.rows) l in
    omega (
      arith,
      rows,
      implied,
      length-append (rows_clauses first t.pins t.rows) (implications first (length t.rows) l ++ (literal_at place (not t.plane) ∷ variables_from first (length t.rows)) ∷ []),
      length-append (implications first (length t.rows) l) ((literal_at place (not t.plane) ∷ variables_from first (length t.rows)) ∷ []),
    )

length-tables_clauses : (place first : ℕ) (tables : List TableValue) → All (λ t. All (λ marks. length marks ≡ length t.pins) t.rows) tables
    → length (tables_clauses place first tables) ≡ sum_by table_clause_count tables
length-tables_clauses place first [] h = refl
length-tables_clauses place first (t ∷ tables) h =
    let here = length-table_clauses place first t (All-head (λ (u : TableValue). All (λ marks. length marks ≡ length u.pins) u.rows) t tables h) in
    let rest = length-tables_clauses (suc place) (first + length t.rows) tables (All-tail (λ (u : TableValue). All (λ marks. length marks ≡ length u.pins) u.rows) t tables h) in
    length-append (table_clauses place first t) (tables_clauses (suc place) (first + length t.rows) tables)
    ∙ cc (here, rest) ∙ sym (sum_by-cons table_clause_count t tables)

pub length-net_clauses : (n : ℕ) (tables : List TableValue) → All (λ t. All (λ marks. length marks ≡ length t.pins) t.rows) tables
    → length (net_clauses n tables) ≡ sum_by table_clause_count tables
unfolding net_clauses
length-net_clauses n tables h = length-tables_clauses n (n + length tables) tables h

pub length-goal_clauses : (n : ℕ) (tables : List TableValue) (signal : ℕ) → length (goal_clauses n tables signal) ≡ length (net_clauses n tables) + 1
unfolding goal_clauses
length-goal_clauses n tables signal = length-append (net_clauses n tables) ((literal_at signal true ∷ []) ∷ [])

pub variable_count-small : (N : NetValue) → IsSmall N → variable_count (input_count N) N.tables ≤ 37120
variable_count-small N h = omega (arith, h.inputs, h.tables, h.all_rows)
