-- The steps that make rows and tables equal.
use Rattle.std.specs.Prelude.{◌≡◌, ℕ, zero, suc, ◌+◌, ◌<◌, ◌≤◌, ◌^◌, Bool, not, List, [], ◌∷◌, ◌++◌}
use Rattle.std.specs.Prelude.{take, length, sum_by, All}
use Rattle.std.specs.List.{AllZip}
use Rattle.semantics.specs.declared.mark.Mark.{Mark}
use Rattle.semantics.specs.Net.{TableValue, row_literals}
use Rattle.proof_semantics.specs.Clauses.{Clause}
use Rattle.proof_semantics.specs.NetClauses.{literal_at, literals_of_row, row_clauses, rows_clauses}
use Rattle.proof_semantics.specs.NetClauses.{implications, variables_from, table_clauses}
use Rattle.proof_semantics.specs.Formula.{Formula}
use Rattle.proof_semantics.specs.Variables.{table_clause_count}
use Rattle.proof_semantics.specs.Logs.{LogItem, IsDerivation}
use Rattle.proof_semantics.specs.Conflicts.{added_clauses}
use Rattle.merge_log.specs.Chains.{MergedValue, first_of}
use Rattle.merge_log.specs.Ids.{HaveIds, forth, back}
use Rattle.merge_log.specs.declared.placed.PlacedPins.{PlacedPins}
use Rattle.merge_log.specs.declared.placed.PlacedTable.{PlacedTable}
use Rattle.merge_log.specs.declared.placed.Implied.{Implied}

-- A row of these marks over its pins stands in the formula: its variable, and its clauses by their ids; and
-- its pins are signals of `m`.
pub record IsRowAt (f : Formula) (m : MergedValue) (marks : List Mark) (at : PlacedPins) : Type 0 where
  pub width : length marks ≡ length at.pins.now
  pub pins_in : All (λ s. s < length m.firsts) at.pins.now
  pub clauses : HaveIds f.clauses at.place.clause
      (row_clauses at.place.row (literals_of_row marks at.pins.now))
  pub row : at.place.row < f.variables
  pub few : at.place.clause < 2 ^ 62

-- rows stand so, one after another
pub record AreRowsAt (f : Formula) (m : MergedValue) (rows : List (List Mark))
    (at : PlacedPins) : Type 0 where
  pub widths : All (λ marks. length marks ≡ length at.pins.now) rows
  pub pins_in : All (λ s. s < length m.firsts) at.pins.now
  pub clauses : HaveIds f.clauses at.place.clause (rows_clauses at.place.row at.pins.now rows)
  pub rows_in : at.place.row + length rows ≤ f.variables
  pub few : at.place.clause + sum_by (λ marks. row_literals marks + 1) rows < 2 ^ 61

-- a table stands so, with its variable, its rows and all its clauses
pub record IsTableAt (f : Formula) (m : MergedValue) (t : PlacedTable) : Type 0 where
  pub pins_in : All (λ s. s < length m.firsts) t.table.now.pins
  pub clauses : HaveIds f.clauses t.place.clause (table_clauses t.signal t.place.row t.table.now)
  pub signal : t.signal < f.variables
  pub rows_in : t.place.row + length t.table.now.rows ≤ f.variables
  pub few : t.place.clause + table_clause_count t.table.now < 2 ^ 61

-- the clauses stand so by which a table of this plane is implied by its rows, and implies that one of them is
-- true
pub record IsImpliedAt (f : Formula) (plane : Bool) (rows : ℕ) (t : Implied) : Type 0 where
  pub clauses : HaveIds f.clauses t.place.clause
      (implications t.place.row rows (literal_at t.signal plane)
      ++ (literal_at t.signal (not plane) ∷ variables_from t.place.row rows) ∷ [])
  pub signal : t.signal < f.variables
  pub rows_in : t.place.row + rows ≤ f.variables
  pub few : t.place.clause < 2 ^ 61

-- one plane, the same rows, and pins that were made equal
pub record AreToMerge (m : MergedValue) (t u : TableValue) : Type 0 where
  pub plane : t.plane ≡ u.plane
  pub rows : t.rows ≡ u.rows
  pub pins : AllZip (λ p q. first_of m p ≡ first_of m q) t.pins u.pins

-- the log is a derivation that adds these clauses behind those of the old one
pub record Adds (f : Formula) (old new : List LogItem) (clauses : List Clause) : Type 0 where
  pub derivation : IsDerivation f new
  pub added : added_clauses new ≡ added_clauses old ++ clauses

-- the clauses that make `count` rows equal, from the two places `row` and `other` on
abbrev pub row_pairs : ℕ → ℕ → ℕ → List Clause
row_pairs row other zero = []
row_pairs row other (suc count) = forth row other ∷ back row other ∷ row_pairs (suc row) (suc other) count

-- the place of the first row of table i, and the id of its first clause
abbrev pub first_row : ℕ → List TableValue → ℕ → ℕ
first_row n tables i = n + length tables + sum_by (λ t. length t.rows) (take i tables)

abbrev pub first_clause : List TableValue → ℕ → ℕ
first_clause tables i = 1 + sum_by table_clause_count (take i tables)
