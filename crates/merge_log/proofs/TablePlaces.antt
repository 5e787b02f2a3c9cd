-- The clauses of each table stand in the formula of its net from the id of its place on.
use Rattle.std.proofs.Common.{◌≡◌, ℕ, zero, suc, ◌+◌, ◌<◌, true, List, [], ◌∷◌, ◌++◌, length, get_or, take, refl, ap, subst, sym, ◌∙◌, arith, append_assoc, length-append, sum_by, inl, inr}
use Rattle.std.specs.Prelude.{All}
use Rattle.std.specs.List.{AllByRecursion}
use Rattle.std.proofs.lemmas.Bool.{cases_lt}
use Rattle.std.proofs.lemmas.List.{get_or_append_left, take_more}
use Rattle.std.proofs.lemmas.List.Elements.{recursion_from_All}
use Rattle.std.proofs.lemmas.List.Sums.{sum_by-cons, sum_by-append}
use Rattle.std.proofs.Math.Seq.{get_or-append_seam}
use Rattle.semantics.specs.declared.mark.Mark.{Mark}
use Rattle.semantics.specs.Net.{TableValue, no_table, table_at, row_literals, table_literals}
use Rattle.proof_semantics.specs.Clauses.{Clause}
use Rattle.proof_semantics.specs.NetClauses.{table_clauses, tables_clauses, net_clauses, goal_clauses, literal_at}
use Rattle.proof_semantics.specs.Variables.{table_clause_count}
use Rattle.proof_semantics.proofs.Counts.{length-table_clauses}
use Rattle.merge_log.specs.declared.placed.Place.{Place}
use Rattle.merge_log.specs.Ids.{HaveIds}
use Rattle.merge_log.specs.Steps.{first_row, first_clause}
use Rattle.merge_log.specs.Places.{place_of, no_place, IsPlaceList}
use Rattle.merge_log.proofs.ClauseIds.{ids-middle}

rows_clause_count : (rows : List (List Mark)) → sum_by (λ marks. row_literals marks + 1) rows ≡ sum_by row_literals rows + length rows
rows_clause_count [] = refl
rows_clause_count (marks ∷ rows) =
    omega (arith, rows_clause_count rows, sum_by-cons (λ (m : List Mark). row_literals m + 1) marks rows, sum_by-cons row_literals marks rows)

pub table_clauses_counted : (t : TableValue) → table_clause_count t ≡ table_literals t + length t.rows + length t.rows + 1
table_clauses_counted t = omega (arith, rows_clause_count t.rows)

abbrev AreFormed : List TableValue → Type 0
AreFormed tables = AllByRecursion (λ t. All (λ marks. length marks ≡ length t.pins) t.rows) tables

record StandsAt (place first i : ℕ) (tables : List TableValue) : Type 0 where
  front : List Clause
  behind : List Clause
  is : tables_clauses place first tables ≡ front ++ (table_clauses (place + i) (first + sum_by (λ (t : TableValue). length t.rows) (take i tables)) (table_at tables i) ++ behind)
  count : length front ≡ sum_by table_clause_count (take i tables)

stands_at : (tables : List TableValue) (place first i : ℕ) → AreFormed tables → i < length tables → StandsAt place first i tables
stands_at [] place first i formed low = absurd (omega (arith, low))
stands_at (t ∷ tables) place first zero formed low =
    let a : place ≡ place + 0 = omega arith in
    let b : first ≡ first + 0 = omega arith in record {
      front = [];
      behind = tables_clauses (suc place) (first + length t.rows) tables;
      is = ap (λ p. table_clauses p first t ++ tables_clauses (suc place) (first + length t.rows) tables) a
          ∙ ap (λ f. table_clauses (place + 0) f t ++ tables_clauses (suc place) (first + length t.rows) tables) b;
      count = refl;
    }
stands_at (t ∷ tables) place first (suc i) formed low =
    let rest = stands_at tables (suc place) (first + length t.rows) i formed.1 (omega (arith, low)) in
    let sums : sum_by (λ (u : TableValue). length u.rows) (t ∷ take i tables) ≡ length t.rows + sum_by (λ (u : TableValue). length u.rows) (take i tables) =
    sum_by-cons (λ (u : TableValue). length u.rows) t (take i tables) in
    let a : suc place + i ≡ place + suc i = omega arith in
    let b : first + length t.rows + sum_by (λ (u : TableValue). length u.rows) (take i tables) ≡ first + sum_by (λ (u : TableValue). length u.rows) (t ∷ take i tables) = omega (arith, sums) in
    record {
      front = table_clauses place first t ++ rest.front;
      behind = rest.behind;
      is = ap (λ l. table_clauses place first t ++ l)
          (rest.is ∙ ap (λ p. rest.front ++ (table_clauses p (first + length t.rows + sum_by (λ (u : TableValue). length u.rows) (take i tables)) (table_at tables i) ++ rest.behind)) a
          ∙ ap (λ f. rest.front ++ (table_clauses (place + suc i) f (table_at tables i) ++ rest.behind)) b)
          ∙ sym (append_assoc (table_clauses place first t) rest.front _);
      count =
          length-append (table_clauses place first t) rest.front
          ∙ omega (arith, length-table_clauses place first t formed.0, rest.count, sum_by-cons table_clause_count t (take i tables));
    }

pub placed : (n : ℕ) (tables : List TableValue) (signal i : ℕ) → All (λ t. All (λ marks. length marks ≡ length t.pins) t.rows) tables → i < length tables
    → HaveIds (goal_clauses n tables signal) (first_clause tables i) (table_clauses (n + i) (first_row n tables i) (table_at tables i))
unfolding goal_clauses net_clauses
placed n tables signal i formed low =
    let at = stands_at tables n (n + length tables) i (recursion_from_All (λ t. All (λ marks. length marks ≡ length t.pins) t.rows) tables formed) low in
    let own : List Clause = table_clauses (n + i) (first_row n tables i) (table_at tables i) in
    let unit : List Clause = (literal_at signal true ∷ []) ∷ [] in
    let is : tables_clauses n (n + length tables) tables ++ unit ≡ at.front ++ (own ++ (at.behind ++ unit)) =
    ap (λ l. l ++ unit) at.is ∙ append_assoc at.front (own ++ at.behind) unit ∙ ap (λ l. at.front ++ l) (append_assoc own at.behind unit) in
    subst (λ l. HaveIds l (first_clause tables i) own) (sym is) (ids-middle at.front own (at.behind ++ unit) (first_clause tables i) (omega (arith, at.count)))

-- ---- the places, table by table

take_next : (tables : List TableValue) (i : ℕ) → i < length tables → take (i + 1) tables ≡ take i tables ++ table_at tables i ∷ []
take_next tables i low = take_more tables i no_table low

pub place_next : (n : ℕ) (tables : List TableValue) (i : ℕ) (t : TableValue) → i < length tables → t ≡ table_at tables i
    → record { row = first_row n tables i + length t.rows; clause = first_clause tables i + table_clause_count t } ≡ place_of n tables (i + 1)
place_next n tables i t low is =
    let rows : sum_by (λ (u : TableValue). length u.rows) (take (i + 1) tables) ≡ sum_by (λ (u : TableValue). length u.rows) (take i tables) + length t.rows =
    ap (sum_by (λ (u : TableValue). length u.rows)) (take_next tables i low) ∙ sum_by-append (λ (u : TableValue). length u.rows) (take i tables) (table_at tables i ∷ [])
    ∙ omega (arith, sum_by-cons (λ (u : TableValue). length u.rows) (table_at tables i) [], ap (λ (u : TableValue). length u.rows) is) in
    let clauses : sum_by table_clause_count (take (i + 1) tables) ≡ sum_by table_clause_count (take i tables) + table_clause_count t =
    ap (sum_by table_clause_count) (take_next tables i low) ∙ sum_by-append table_clause_count (take i tables) (table_at tables i ∷ [])
    ∙ omega (arith, sum_by-cons table_clause_count (table_at tables i) [], ap table_clause_count is) in
    let row : first_row n tables i + length t.rows ≡ first_row n tables (i + 1) = omega (arith, rows) in
    let clause : first_clause tables i + table_clause_count t ≡ first_clause tables (i + 1) = omega (arith, clauses) in
    λ k. record { row = row k; clause = clause k }

pub places_next : (n : ℕ) (tables : List TableValue) (i : ℕ) (places : List Place) (place : Place) → place ≡ place_of n tables i → IsPlaceList n tables i places
    → IsPlaceList n tables (i + 1) (places ++ place ∷ [])
places_next n tables i places place is h = record {
  count = omega (arith, length-append places (place ∷ []), h.count);
  are = λ j low. elim (cases_lt j i) [
    | inl before ↦ get_or_append_left places (place ∷ []) no_place j (omega (arith, before, h.count)) ∙ h.are j before
    | inr last ↦
        let at : j ≡ length places = omega (arith, low, last, h.count) in
        let here : i ≡ j = omega (arith, low, last) in
        ap (λ k. get_or (places ++ place ∷ []) k no_place) at ∙ get_or-append_seam places place [] no_place ∙ is ∙ ap (place_of n tables) here
  ];
}
