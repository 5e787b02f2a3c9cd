-- What literals are joined to, where each line holds.
use Rattle.std.proofs.Common.{◌≡◌, ℕ, ◌+◌, Bool, true, false, not, ◌&&◌, ◌||◌, cond, List, [], ◌∷◌, map, refl, sym, ap, ◌∙◌}
use Rattle.std.specs.List.{AllByRecursion, list_all, list_any}
use Rattle.std.proofs.Math.Bool.{and_assoc}
use Rattle.std.proofs.lemmas.List.Folds.{list_all-append}
use Rattle.semantics.specs.declared.mark.Mark.{Mark}
use Rattle.semantics.specs.declared.mark.Mark.TheVariants.{Zero, One, Dash}
use Rattle.semantics.specs.Net.{TableValue}
use Rattle.semantics.specs.Value.{Assignment, mark_matches, row_matches, table_value}
use Rattle.aiger_semantics.specs.declared.and_line.AndLine.{AndLine}
use Rattle.aiger_semantics.specs.Circuit.{literal_of_variable, negated, literal_value, and_value}
use Rattle.aiger_semantics.specs.NetCircuit.{Literals, joins_after, joins, joined_after, joined, marked, row_inputs, row_ands, rows_ands, rows_joins, rows_joined, no_rows, table_joins, disjunction}
use Rattle.aiger_semantics.specs.NetCircuit.{table_literal}
use Rattle.aiger_semantics.proofs.Each.{each-left, each-right}
use Rattle.aiger_semantics.proofs.Literals.{not_not, value-variable, value-negated}

-- each line's variable has the value of the line
abbrev pub Holds : Assignment → List AndLine → Type 0
Holds v lines = AllByRecursion (λ a. v a.variable ≡ and_value v a) lines

pub and_true : (b : Bool) → (b && true) ≡ b
and_true true = refl
and_true false = refl

module _ (v : Assignment) where
  joined_after-value : (next so_far : ℕ) (literals : List ℕ) → Holds v (joins_after next so_far literals)
      → literal_value v (joined_after next so_far literals) ≡ (literal_value v so_far && list_all (literal_value v) literals)
  joined_after-value next so_far [] h = sym (and_true (literal_value v so_far))
  joined_after-value next so_far (literal ∷ literals) h =
      joined_after-value (next + 1) (literal_of_variable next) literals h.1
      ∙ ap (λ b. b && list_all (literal_value v) literals) (value-variable v next ∙ h.0)
      ∙ and_assoc (literal_value v so_far) (literal_value v literal) (list_all (literal_value v) literals)

  -- joined literals are their conjunction
  joined-value : v 0 ≡ false → (next : ℕ) (literals : List ℕ) → Holds v (joins next literals) → literal_value v (joined next literals) ≡ list_all (literal_value v) literals
  joined-value none next [] h = ap not none
  joined-value none next (literal ∷ literals) h = joined_after-value next literal literals h

  marked-value : (m : Mark) (literal : ℕ) → list_all (literal_value v) (marked m literal) ≡ mark_matches m (literal_value v literal)
  marked-value Zero literal = and_true (literal_value v (negated literal)) ∙ value-negated v literal
  marked-value One literal = and_true (literal_value v literal)
  marked-value Dash literal = refl

  -- what a row asks for is there where the row matches
  row_inputs-value : (literals : Literals) (marks : List Mark) (pins : List ℕ)
      → list_all (literal_value v) (row_inputs literals marks pins) ≡ row_matches marks pins (λ s. literal_value v (literals s))
  row_inputs-value literals [] pins = refl
  row_inputs-value literals (m ∷ marks) [] = refl
  row_inputs-value literals (m ∷ marks) (s ∷ pins) =
      list_all-append (literal_value v) (marked m (literals s)) (row_inputs literals marks pins)
      ∙ ap (λ b. b && list_all (literal_value v) (row_inputs literals marks pins)) (marked-value m (literals s))
      ∙ ap (λ b. mark_matches m (literal_value v (literals s)) && b) (row_inputs-value literals marks pins)

  pub row-value : v 0 ≡ false → (literals : Literals) (next : ℕ) (marks : List Mark) (pins : List ℕ) → Holds v (joins next (row_inputs literals marks pins))
      → literal_value v (joined next (row_inputs literals marks pins)) ≡ row_matches marks pins (λ s. literal_value v (literals s))
  row-value none literals next marks pins h = joined-value none next (row_inputs literals marks pins) h ∙ row_inputs-value literals marks pins

  rows-value : v 0 ≡ false → (literals : Literals) (next : ℕ) (pins : List ℕ) (rows : List (List Mark)) → Holds v (rows_joins literals next pins rows)
      → list_any (literal_value v) (rows_joined literals next pins rows) ≡ list_any (λ marks. row_matches marks pins (λ s. literal_value v (literals s))) rows
  rows-value none literals next pins [] h = refl
  rows-value none literals next pins (marks ∷ rows) h =
      let own = joins next (row_inputs literals marks pins) in
      let rest = rows_joins literals (next + row_ands marks) pins rows in
      let here = row-value none literals next marks pins (each-left (λ a. v a.variable ≡ and_value v a) own rest h) in
      let more = rows-value none literals (next + row_ands marks) pins rows (each-right (λ a. v a.variable ≡ and_value v a) own rest h) in
      cc (here, more)

  not_or : (a b : Bool) → (not a && not b) ≡ not (a || b)
  not_or true b = refl
  not_or false b = refl

  -- all opposites are true where none of the literals is
  opposites-value : (literals : List ℕ) → list_all (literal_value v) (map negated literals) ≡ not (list_any (literal_value v) literals)
  opposites-value [] = refl
  opposites-value (literal ∷ literals) =
      ap (λ b. b && list_all (literal_value v) (map negated literals)) (value-negated v literal)
      ∙ ap (λ b. not (literal_value v literal) && b) (opposites-value literals)
      ∙ not_or (literal_value v literal) (list_any (literal_value v) literals)

  at_plane : (plane : Bool) (literal : ℕ) (b : Bool) → literal_value v literal ≡ b → literal_value v (cond plane literal (negated literal)) ≡ cond b plane (not plane)
  at_plane true literal true is = is
  at_plane true literal false is = is
  at_plane false literal true is = value-negated v literal ∙ ap not is
  at_plane false literal false is = value-negated v literal ∙ ap not is

  -- the literal of a table has the table's value, where the signals have the values of their literals
  pub table-value : v 0 ≡ false → (literals : Literals) (next : ℕ) (t : TableValue) → Holds v (table_joins literals next t)
      → literal_value v (table_literal literals next t) ≡ table_value t (λ s. literal_value v (literals s))
  table-value none literals next t h =
      let own = rows_joins literals next t.pins t.rows in
      let last = joins (next + rows_ands t.rows) (no_rows literals next t) in
      let rows = rows-value none literals next t.pins t.rows (each-left (λ a. v a.variable ≡ and_value v a) own last h) in
      let whole = joined-value none (next + rows_ands t.rows) (no_rows literals next t) (each-right (λ a. v a.variable ≡ and_value v a) own last h) in
      at_plane t.plane (disjunction literals next t) (list_any (λ marks. row_matches marks t.pins (λ s. literal_value v (literals s))) t.rows)
      (value-negated v (joined (next + rows_ands t.rows) (no_rows literals next t))
      ∙ ap not (whole ∙ opposites-value (rows_joined literals next t.pins t.rows))
      ∙ not_not (list_any (literal_value v) (rows_joined literals next t.pins t.rows))
      ∙ rows)
