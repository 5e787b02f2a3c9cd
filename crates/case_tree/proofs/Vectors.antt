-- Where the output is 0 at an input vector, the vector's hints derive its negation.
use Rattle.std.proofs.Common.{◌≡◌, ◌≢◌, ℕ, zero, suc, ◌+◌, ◌-◌, ◌<◌, ◌⊎◌, Bool, true, false, cond, not, List, [], ◌∷◌, ◌++◌, length, get_or, replicate, map, refl, ap, subst, sym, ◌∙◌, inl, inr}
use Rattle.std.proofs.Common.{arith, append_assoc, sum_by, All, neg_ℤ, Option, Some}
use Rattle.std.specs.List.{AllByRecursion, Contains, list_any}
use Rattle.std.specs.FinSet as literals
use Rattle.std.proofs.Math.ListN.{length-map}
use Rattle.std.proofs.lemmas.List.Elements.{All-from_recursion, recursion_from_All, Contains-push_cases}
use Rattle.std.proofs.lemmas.List.{append-nil, length-set, length-replicate, get_or-set_other}
use Rattle.std.proofs.lemmas.Bool.{cases_lt, cases_eq}
use Rattle.std.proofs.lemmas.List.Sums.{sum_by-cons}
use Rattle.semantics.specs.declared.mark.Mark.{Mark}
use Rattle.semantics.specs.Net.{TableValue, row_literals, table_literals, no_table, table_at}
use Rattle.semantics.specs.Value.{Assignment, row_matches, table_value, value_of}
use Rattle.semantics.specs.Order.{IsKnown, IsOrderAfter, IsOrderOf}
use Rattle.semantics.proofs.Ordered.{order-acyclic, order-tables}
use Rattle.semantics.proofs.Values.{value_law}
use Rattle.proof_semantics.specs.Clauses.{Clause, literal_value, clause_value}
use Rattle.proof_semantics.specs.NetClauses.{literal_at, rows_clauses, implications, variables_from, table_clauses, tables_clauses, net_clauses, goal_clauses}
use Rattle.proof_semantics.specs.Variables.{table_clause_count, row_values, place_value, by_place}
use Rattle.proof_semantics.specs.Logs.{LiteralSet, with_negations, is_empty, EndsInConflict}
use Rattle.proof_semantics.proofs.Refutations.{negations-fail, none-fails}
use Rattle.proof_semantics.proofs.Agreement.{AgreesFrom, AgreesFrom-parts, AgreesFrom-from}
use Rattle.proof_semantics.proofs.Counts.{length-rows_clauses, length-table_clauses}
use Rattle.proof_semantics.proofs.NetValues.{each_pin, at_signal, rows_have_values}
use Rattle.case_tree.specs.Cases.{negation_from, negation, match_hints, failing_hints, has_match, asked_by_match, asked_by_rows, asked_by_table, first_ids, hints_from, needed_before, hints_before}
use Rattle.case_tree.specs.Cases.{only_needed, ordered_hints}
use Rattle.case_tree.proofs.Sets.{Holds, Holds-new, Holds-negations, open-none}
use Rattle.case_tree.proofs.Units.{AreHeldFrom, AreHeldFrom-parts}
use Rattle.case_tree.proofs.Rows.{Knows, Knows-literal}
use Rattle.case_tree.proofs.Needs.{IsNeeded, set_off, flag_within, needed-set, needed-less, table-keeps, table-only, length-table}
use Rattle.case_tree.proofs.Tables.{Goes, match-decides, failing-decide}

-- the clauses of a table's rows: one for each literal, and one for each row
pub rows_clause_count : (rows : List (List Mark)) → sum_by (λ marks. row_literals marks + 1) rows ≡ sum_by row_literals rows + length rows
rows_clause_count [] = refl
rows_clause_count (marks ∷ rows) =
    omega (arith, rows_clause_count rows, sum_by-cons (λ (m : List Mark). row_literals m + 1) marks rows, sum_by-cons row_literals marks rows)

-- ---- what is held of one table

-- the clauses of the table at a place, with its rows from some place on, which have the values of the rows
pub record HasClauses (a v : Assignment) (held : ℕ → Option Clause) (next place : ℕ) (t : TableValue) : Type 0 where
  pub first : ℕ
  pub clauses : AreHeldFrom held next (table_clauses place first t)
  pub rows : AgreesFrom a first (map (λ marks. row_matches marks t.pins v) t.rows)

AreWide : TableValue → Type 0
AreWide t = AllByRecursion (λ marks. length marks ≡ length t.pins) t.rows

HasClauses-at : (a v : Assignment) (held : ℕ → Option Clause) (goal : List Clause) (tables : List TableValue) (place first next i k : ℕ) → AllByRecursion AreWide tables → i < length tables
    → place + i ≡ k
    → AreHeldFrom held next (tables_clauses place first tables ++ goal) → AgreesFrom a first (row_values tables v)
    → HasClauses a v held (get_or (first_ids next tables) i 0) k (table_at tables i)
unfolding AgreesFrom AreWide
HasClauses-at a v held goal [] place first next i k wide within e clauses agree = absurd (omega arith)
HasClauses-at a v held goal (t ∷ tables) place first next i k wide within e clauses agree =
    by_place i within e (λ j low at. HasClauses-at a v held goal tables (suc place) (first + length t.rows) (next + table_clause_count t) j k wide.1 low at apart.1 agrees.1) where
      later : List Clause
      later = tables_clauses (suc place) (first + length t.rows) tables

      apart : AreHeldFrom held next (table_clauses place first t) × AreHeldFrom held (next + table_clause_count t) (later ++ goal)
      apart =
          AreHeldFrom-parts held (table_clauses place first t) (later ++ goal) next (next + table_clause_count t)
          (omega (arith, length-table_clauses place first t (All-from_recursion (λ marks. length marks ≡ length t.pins) t.rows wide.0)))
          (subst (AreHeldFrom held next) (append_assoc (table_clauses place first t) later goal) clauses)

      agrees : AgreesFrom a first (map (λ marks. row_matches marks t.pins v) t.rows) × AgreesFrom a (first + length t.rows) (row_values tables v)
      agrees =
          let wide_values : length (map (λ marks. row_matches marks t.pins v) t.rows) ≡ length t.rows = length-map t.rows _ in
          AgreesFrom-parts a (map (λ marks. row_matches marks t.pins v) t.rows) (row_values tables v) first (first + length t.rows) (omega (arith, wide_values)) agree

      by_place : (i : ℕ) → i < length (t ∷ tables) → place + i ≡ k
          → ((j : ℕ) → j < length tables → suc place + j ≡ k → HasClauses a v held (get_or (first_ids (next + table_clause_count t) tables) j 0) k (table_at tables j))
          → HasClauses a v held (get_or (first_ids next (t ∷ tables)) i 0) k (table_at (t ∷ tables) i)
      by_place zero low at rec = let same : k ≡ place = omega (arith, at) in rw same (record { first = first; clauses = apart.0; rows = agrees.0 })
      by_place (suc j) low at rec = rec j (omega (arith, low)) (omega (arith, at))

-- behind the clauses of all tables
goal-at : (held : ℕ → Option Clause) (clause : Clause) (tables : List TableValue) (place first next : ℕ) → AllByRecursion AreWide tables
    → AreHeldFrom held next (tables_clauses place first tables ++ clause ∷ []) → held (get_or (first_ids next tables) (length tables) 0) ≡ Some clause
unfolding AreWide
goal-at held clause [] place first next wide clauses = clauses.0
goal-at held clause (t ∷ tables) place first next wide clauses =
    let later : List Clause = tables_clauses (suc place) (first + length t.rows) tables in
    let count = length-table_clauses place first t (All-from_recursion (λ marks. length marks ≡ length t.pins) t.rows wide.0) in
    let apart = AreHeldFrom-parts held (table_clauses place first t) (later ++ clause ∷ []) next (next + table_clause_count t) (omega (arith, count))
    (subst (AreHeldFrom held next) (append_assoc (table_clauses place first t) later (clause ∷ [])) clauses) in
    goal-at held clause tables (suc place) (first + length t.rows) (next + table_clause_count t) wide.1 apart.1

-- ---- the tables in an order

append-some : (xs ys : List ℕ) → is_empty ys ≡ false → is_empty (xs ++ ys) ≡ false
append-some [] ys e = e
append-some (x ∷ xs) ys e = refl

some-hints : (n : ℕ) (tables : List TableValue) (v : Assignment) (needed : List Bool) (order : List ℕ) → is_empty (hints_before n tables v needed order) ≡ false
some-hints n tables v needed [] = refl
some-hints n tables v needed (i ∷ order) = append-some _ (hints_before n tables v needed order) (some-hints n tables v needed order)

length-needed : (n : ℕ) (tables : List TableValue) (v : Assignment) (needed : List Bool) (order : List ℕ) → length (needed_before n tables v needed order) ≡ length needed
length-needed n tables v needed [] = refl
length-needed n tables v needed (i ∷ order) = by_test (get_or behind (n + i) false) (length-needed n tables v needed order) where
  behind : List Bool
  behind = needed_before n tables v needed order

  by_test : (b : Bool) → length behind ≡ length needed → length (cond b (asked_by_table (n + i) (table_at tables i) v (set_off behind (n + i))) behind) ≡ length needed
  by_test true rest = length-table (n + i) (table_at tables i) v (set_off behind (n + i)) ∙ length-set behind (n + i) false ∙ rest
  by_test false rest = rest

-- one more table is known
known-next : (n : ℕ) (before : List ℕ) (i s : ℕ) → IsKnown n (before ++ i ∷ []) s → IsKnown n before s ⊎ (s ≡ n + i)
known-next n before i s (inl input) = inl (inl input)
known-next n before i s (inr table) =
    elim (cases_lt s n) [
      | inl low ↦ inl (inl low)
      | inr high ↦ elim (Contains-push_cases before i (s - n) table) [
        | inl earlier ↦ inl (inr earlier)
        | inr same ↦ inr (omega (arith, same, high))
      ]
    ]

-- what is needed before one more table is known there
needed-step : (n : ℕ) (tables : List TableValue) (v : Assignment) (behind : List Bool) (before : List ℕ) (i : ℕ) → AllByRecursion (IsKnown n before) (table_at tables i).pins
    → ((q : ℕ) → IsNeeded behind q → IsKnown n (before ++ i ∷ []) q) → (s : ℕ)
    → IsNeeded (cond (get_or behind (n + i) false) (asked_by_table (n + i) (table_at tables i) v (set_off behind (n + i))) behind) s → IsKnown n before s
needed-step n tables v behind before i reads further s is = by_test (get_or behind (n + i) false) refl is where
  other : (q : ℕ) → q ≢ n + i → IsNeeded behind q → IsKnown n before q
  other q apart h = elim (known-next n before i q (further q h)) [ inl here ↦ here | inr same ↦ absurd (apart same) ]

  by_test : (b : Bool) → get_or behind (n + i) false ≡ b → IsNeeded (cond b (asked_by_table (n + i) (table_at tables i) v (set_off behind (n + i))) behind) s → IsKnown n before s
  by_test true flag h =
      table-only (IsKnown n before) (n + i) (table_at tables i) v (set_off behind (n + i)) reads
      (λ q less. let parts = needed-less behind (n + i) q less in other q parts.0 parts.1) s h
  by_test false flag h = other s (λ same. let on : get_or behind (n + i) false ≡ true = subst (IsNeeded behind) same h in cc (on, flag)) h

-- what is needed before the tables of an order is known there, where all that is needed behind them is known there
needed-known : (n : ℕ) (tables : List TableValue) (v : Assignment) (needed : List Bool) (order before : List ℕ) → IsOrderAfter n tables before order
    → ((s : ℕ) → IsNeeded needed s → IsKnown n (before ++ order) s) → (s : ℕ) → IsNeeded (needed_before n tables v needed order) s → IsKnown n before s
needed-known n tables v needed [] before turn known s is = subst (λ l. IsKnown n l s) (append-nil before) (known s is)
needed-known n tables v needed (i ∷ order) before turn known s is =
    needed-step n tables v (needed_before n tables v needed order) before i turn.0.reads
    (needed-known n tables v needed order (before ++ i ∷ []) turn.1 (λ q h. subst (λ l. IsKnown n l q) (sym (append_assoc before (i ∷ []) order)) (known q h))) s is

-- a table has a row that matches, and so its plane, or none, and the opposite
matched : (plane value any : Bool) → has_match plane value ≡ true → value ≡ cond any plane (not plane) → (any ≡ true) × (value ≡ plane)
matched true true true is e = (refl, refl)
matched true true false is e = cc
matched true false any is e = cc
matched false true any is e = cc
matched false false true is e = (refl, refl)
matched false false false is e = cc

unmatched : (plane value any : Bool) → has_match plane value ≡ false → value ≡ cond any plane (not plane) → (any ≡ false) × (value ≡ not plane)
unmatched true false false is e = (refl, refl)
unmatched true false true is e = cc
unmatched true true any is e = cc
unmatched false false any is e = cc
unmatched false true false is e = (refl, refl)
unmatched false true true is e = cc

All-at : (P : TableValue → Type 0) (tables : List TableValue) (i : ℕ) → i < length tables → AllByRecursion P tables → P (table_at tables i)
All-at P tables i low h = All-from_recursion P tables h i no_table low

-- one more table: its hints, where it is needed
module _ (a v : Assignment) (held : ℕ → Option Clause) (n : ℕ) (tables : List TableValue) (i : ℕ) (behind : List Bool) (rest : List ℕ) (within : i < length tables)
    (equal : a (suc (n + i)) ≡ v (n + i)) (value : v (n + i) ≡ table_value (table_at tables i) v) (wide : AreWide (table_at tables i))
    (pins : AllByRecursion (λ s. s < n + length tables) (table_at tables i).pins) (has : HasClauses a v held (get_or (first_ids 1 tables) i 0) (n + i) (table_at tables i))
    (as_many : length behind ≡ n + length tables) (some : is_empty rest ≡ false) (further : Goes a v held (IsNeeded behind) rest) where
  abbrev t : TableValue
  t = table_at tables i

  abbrev left : List Bool
  left = set_off behind (n + i)

  abbrev next : ℕ
  next = get_or (first_ids 1 tables) i 0

  length-left : length left ≡ n + length tables
  length-left = length-set behind (n + i) false ∙ as_many

  split : (s : ℕ) → IsNeeded behind s → IsNeeded (asked_by_table (n + i) t v left) s ⊎ (s ≡ n + i)
  split s is =
      elim (cases_eq s (n + i)) [
        | inl here ↦ inr here
        | inr other ↦ inl (table-keeps (n + i) t v left s (get_or-set_other behind (n + i) s false false other ∙ is))
      ]

  parts : AreHeldFrom held next (rows_clauses has.first t.pins t.rows)
      × AreHeldFrom held (next + table_literals t + length t.rows)
      (implications has.first (length t.rows) (literal_at (n + i) t.plane) ++ (literal_at (n + i) (not t.plane) ∷ variables_from has.first (length t.rows)) ∷ [])
  unfolding AreWide
  parts =
      let rows = length-rows_clauses has.first t.pins t.rows (All-from_recursion (λ marks. length marks ≡ length t.pins) t.rows wide) in
      AreHeldFrom-parts held (rows_clauses has.first t.pins t.rows)
      (implications has.first (length t.rows) (literal_at (n + i) t.plane) ++ (literal_at (n + i) (not t.plane) ∷ variables_from has.first (length t.rows)) ∷ [])
      next (next + table_literals t + length t.rows) (omega (arith, rows, rows_clause_count t.rows)) has.clauses

  table-decides : (b : Bool) → has_match t.plane (v (n + i)) ≡ b
      → ((s : ℕ) → IsNeeded behind s → IsNeeded (cond b (asked_by_match t.pins t.rows v left) (asked_by_rows t.pins t.rows v left)) s ⊎ (s ≡ n + i))
      → Goes a v held (IsNeeded (cond b (asked_by_match t.pins t.rows v left) (asked_by_rows t.pins t.rows v left)))
      (cond b (match_hints next (next + table_literals t + length t.rows) t.pins t.rows v) (failing_hints next (next + table_literals t + length t.rows) t.pins t.rows v) ++ rest)
  unfolding AreWide
  table-decides true is split' set h k =
      let matches = matched t.plane (v (n + i)) (list_any (λ marks. row_matches marks t.pins v) t.rows) is value in
      match-decides a v held (IsNeeded (asked_by_match t.pins t.rows v left)) (IsNeeded behind) (n + length tables) (n + i) t.plane t.pins rest left
      ((literal_at (n + i) (not t.plane) ∷ variables_from has.first (length t.rows)) ∷ [])
      split' pins length-left equal matches.1 some further
      t.rows has.first next (next + table_literals t + length t.rows) set (λ q asked. asked) wide parts.0 parts.1 has.rows matches.0 h k
  table-decides false is split' set h k =
      let fails = unmatched t.plane (v (n + i)) (list_any (λ marks. row_matches marks t.pins v) t.rows) is value in
      failing-decide a v held (IsNeeded (asked_by_rows t.pins t.rows v left)) (IsNeeded behind) (n + length tables) (n + i) t.plane t.pins rest left
      split' pins length-left equal fails.1 some further
      t.rows has.first next (next + table_literals t + length t.rows) [] set (λ q asked. asked) wide parts.0 parts.1 has.rows fails.0 h k tt

  needed-decides : (b : Bool) → Goes a v held (IsNeeded (cond b (asked_by_table (n + i) t v left) behind)) (cond b (hints_from next (n + i) t v) [] ++ rest)
  needed-decides true = table-decides (has_match t.plane (v (n + i))) refl split
  needed-decides false = further

-- where what is needed is known, and each table's clauses are held
order-decides : (a v : Assignment) (held : ℕ → Option Clause) (n output : ℕ) (tables : List TableValue) (needed : List Bool) → ((s : ℕ) → s < n + length tables → a (suc s) ≡ v s) → v output ≡ false
    → ((i : ℕ) → i < length tables → v (n + i) ≡ table_value (table_at tables i) v)
    → ((i : ℕ) → i < length tables → AreWide (table_at tables i))
    → ((i : ℕ) → i < length tables → AllByRecursion (λ s. s < n + length tables) (table_at tables i).pins)
    → ((i : ℕ) → i < length tables → HasClauses a v held (get_or (first_ids 1 tables) i 0) (n + i) (table_at tables i))
    → held (get_or (first_ids 1 tables) (length tables) 0) ≡ Some (literal_at output true ∷ [])
    → length needed ≡ n + length tables → IsNeeded needed output
    → (order : List ℕ) → AllByRecursion (λ i. i < length tables) order
    → Goes a v held (IsNeeded (needed_before n tables v needed order)) (hints_before n tables v needed order)
order-decides a v held n output tables needed same is_zero values wide pins clauses last as_many start [] within =
    λ set h k.
    let clause : Clause = literal_at output true ∷ [] in
    (clause, last, open-none set clause (Knows-literal v set (IsNeeded needed) output false k start is_zero, tt))
order-decides a v held n output tables needed same is_zero values wide pins clauses last as_many start (i ∷ order) within =
    let behind : List Bool = needed_before n tables v needed order in
    needed-decides a v held n tables i behind (hints_before n tables v needed order) within.0 (same (n + i) (omega (arith, within.0))) (values i within.0) (wide i within.0) (pins i within.0)
    (clauses i within.0) (length-needed n tables v needed order ∙ as_many) (some-hints n tables v needed order)
    (order-decides a v held n output tables needed same is_zero values wide pins clauses last as_many start order within.1)
    (get_or behind (n + i) false)

-- ---- an input vector

opposite : (place : ℕ) (b : Bool) → neg_ℤ (literal_at place (not b)) ≡ literal_at place b
opposite place true = refl
opposite place false = refl

-- the negations of a vector's negation are its bits
pub negation-known : (bits : List Bool) (place : ℕ) (set : LiteralSet) (j k : ℕ) → j < length bits → place + j ≡ k
    → Holds (with_negations set (negation_from place bits)) (literal_at k (get_or bits j false))
negation-known [] place set j k within e = absurd (omega arith)
negation-known (b ∷ bits) place set zero k within e =
    let same : place ≡ k = omega (arith, e) in
    let here : Holds (literals.insert set (neg_ℤ (literal_at place (not b)))) (literal_at k b) =
    rw (opposite place b, same) (Holds-new set (literal_at k b)) in
    Holds-negations (negation_from (suc place) bits) (literals.insert set (neg_ℤ (literal_at place (not b)))) (literal_at k b) here
negation-known (b ∷ bits) place set (suc j) k within e =
    negation-known bits (suc place) (literals.insert set (neg_ℤ (literal_at place (not b)))) j k (omega arith) (omega (arith, e))

literal_at-false : (a : Assignment) (place : ℕ) (b : Bool) → a (suc place) ≡ b → literal_value a (literal_at place (not b)) ≡ false
literal_at-false a place true e = ap not e
literal_at-false a place false e = e

pub negation-false : (a : Assignment) (bits : List Bool) (place : ℕ) → AgreesFrom a place bits → clause_value a (negation_from place bits) ≡ false
unfolding AgreesFrom
negation-false a [] place h = refl
negation-false a (b ∷ bits) place h = let here = literal_at-false a place b h.0 in rw here (negation-false a bits (suc place) h.1)

no_member : (k : ℕ) → Contains [] k → ⊥
no_member k c = omega (arith, c.1)

each_wide : (tables : List TableValue) → All (λ t. All (λ marks. length marks ≡ length t.pins) t.rows) tables → AllByRecursion AreWide tables
unfolding AreWide
each_wide [] h = tt
each_wide (t ∷ tables) h = (recursion_from_All (λ marks. length marks ≡ length t.pins) t.rows (h zero t (omega arith)), each_wide tables (λ k d within. h (suc k) d (omega arith)))

pub vector-derives : (n : ℕ) (tables : List TableValue) (order : List ℕ) (output : ℕ) (x : List Bool) (held : ℕ → Option Clause)
    → IsOrderOf n tables order → All (λ t. All (λ marks. length marks ≡ length t.pins) t.rows) tables → output < n + length tables
    → length x ≡ n → value_of n tables x output ≡ false → AreHeldFrom held 1 (goal_clauses n tables output)
    → EndsInConflict held (with_negations literals.empty (negation x)) (ordered_hints n tables order output (value_of n tables x))
unfolding goal_clauses net_clauses AreWide
vector-derives n tables order output x held is_order wide within width is_zero clauses =
    let v : Assignment = value_of n tables x in
    let a : Assignment = by_place (place_value n tables x) in
    let acyclic = order-acyclic n tables order is_order in
    let consistent = (value_law n tables x acyclic).consistent in
    let same : (s : ℕ) → s < n + length tables → a (suc s) ≡ v s = λ s below. at_signal n tables x a s below (λ k low. refl) in
    let bits : AgreesFrom a 0 x = AgreesFrom-from a x 0 (λ j below. let at : 0 + j ≡ j = omega arith in rw at (same j (omega (arith, width)) ∙ consistent.input j (omega (arith, width)))) in
    let start : LiteralSet = with_negations literals.empty (negation x) in
    let needed : List Bool = only_needed (n + length tables) output in
    let as_many : length needed ≡ n + length tables = length-set (replicate (n + length tables) false) output true ∙ length-replicate (n + length tables) false in
    let only : (s : ℕ) → IsNeeded needed s → IsKnown n order s =
    λ s is. elim (cases_lt s n) [
      | inl low ↦ inl low
      | inr high ↦ inr (is_order.all (s - n) (omega (arith, flag_within needed s is, as_many, high)))
    ] in
    let knows : Knows v start (IsNeeded (needed_before n tables v needed order)) = λ s is.
    elim (needed-known n tables v needed order [] is_order.in_turn only s is) [
      | inl below ↦ rw (consistent.input s below) (negation-known x 0 literals.empty s s (omega (arith, width)) (omega arith))
      | inr none ↦ absurd (no_member (s - n) none)
    ] in
    let goal : Clause = literal_at output true ∷ [] in
    order-decides a v held n output tables needed same is_zero consistent.table
    (λ i low. recursion_from_All (λ marks. length marks ≡ length (table_at tables i).pins) (table_at tables i).rows (wide i no_table low))
    (λ i low. All-at (λ t. AllByRecursion (λ s. s < n + length tables) t.pins) tables i low (each_pin (λ s. s < n + length tables) n tables acyclic (λ s below. below)))
    (λ i low. HasClauses-at a v held (goal ∷ []) tables n (n + length tables) 1 i (n + i) (each_wide tables wide) low refl clauses (rows_have_values n tables x a (λ k below. refl)))
    (goal-at held goal tables n (n + length tables) 1 (each_wide tables wide) clauses)
    as_many (needed-set (replicate (n + length tables) false) output (omega (arith, within, length-replicate (n + length tables) false)))
    order (order-tables n tables [] order is_order.in_turn)
    start
    (negations-fail a (negation x) literals.empty (none-fails a) (negation-false a x 0 bits)) knows
