-- Each literal of a net's clauses is of one of its variables.
use Rattle.std.proofs.Common.{ℕ, zero, suc, ◌+◌, ◌<◌, ◌≤◌, Bool, true, false, cond, not, List, [], ◌∷◌, ◌++◌, length, map, arith, sum_by, All, ℤ, pos, negsuc, neg_ℤ}
use Rattle.std.specs.List.{AllByRecursion}
use Rattle.std.proofs.lemmas.List.Elements.{All-nil, All-cons, All-head, All-tail, All-append, All-push, All-map, All-weaker}
use Rattle.std.proofs.lemmas.List.Sums.{sum_by-cons}
use Rattle.semantics.specs.declared.mark.Mark.{Mark}
use Rattle.semantics.specs.declared.mark.Mark.TheVariants.{Zero, One, Dash}
use Rattle.semantics.specs.Net.{TableValue, IsAcyclic}
use Rattle.proof_semantics.specs.Clauses.{Clause, IsLiteralOf, AreClausesOf, has_literal, with_literals}
use Rattle.proof_semantics.specs.NetClauses.{literal_at, literals_of_row, implication, row_clauses, rows_clauses, implications, variables_from, table_clauses, tables_clauses, net_clauses}
use Rattle.proof_semantics.specs.NetClauses.{goal_clauses}
use Rattle.proof_semantics.specs.Variables.{variable_count}
use Rattle.proof_semantics.proofs.NetValues.{each_pin}

pub IsLiteralOf-at : (v place : ℕ) (sign : Bool) → place < v → IsLiteralOf v (literal_at place sign)
IsLiteralOf-at v place true h = record { not_zero = omega arith; within = omega arith }
IsLiteralOf-at v place false h = record { not_zero = omega arith; within = omega arith }

IsLiteralOf-negation : (v : ℕ) (l : ℤ) → IsLiteralOf v l → IsLiteralOf v (neg_ℤ l)
IsLiteralOf-negation v (pos zero) h = h
IsLiteralOf-negation v (pos (suc k)) h = record { not_zero = omega arith; within = h.within }
IsLiteralOf-negation v (negsuc k) h = record { not_zero = omega arith; within = h.within }

one : (v : ℕ) (l : ℤ) → IsLiteralOf v l → All (IsLiteralOf v) (l ∷ [])
one v l h = All-cons (IsLiteralOf v) l [] h (All-nil (IsLiteralOf v))

AreLiterals-row : (v : ℕ) (marks : List Mark) (pins : List ℕ) → AllByRecursion (λ s. s < v) pins → All (IsLiteralOf v) (literals_of_row marks pins)
AreLiterals-row v [] pins h = All-nil (IsLiteralOf v)
AreLiterals-row v (m ∷ marks) [] h = All-nil (IsLiteralOf v)
AreLiterals-row v (Zero ∷ marks) (pin ∷ pins) h = All-cons (IsLiteralOf v) (literal_at pin false) (literals_of_row marks pins) (IsLiteralOf-at v pin false h.0) (AreLiterals-row v marks pins h.1)
AreLiterals-row v (One ∷ marks) (pin ∷ pins) h = All-cons (IsLiteralOf v) (literal_at pin true) (literals_of_row marks pins) (IsLiteralOf-at v pin true h.0) (AreLiterals-row v marks pins h.1)
AreLiterals-row v (Dash ∷ marks) (pin ∷ pins) h = AreLiterals-row v marks pins h.1

AreLiterals-with : (v : ℕ) (clause : Clause) (literals : List ℤ) → All (IsLiteralOf v) clause → All (IsLiteralOf v) literals → All (IsLiteralOf v) (with_literals clause literals)
AreLiterals-with v clause [] h k = h
AreLiterals-with v clause (l ∷ literals) h k =
    AreLiterals-with v (cond (has_literal clause l) clause (clause ++ l ∷ [])) literals
    (by_test (has_literal clause l)) (All-tail (IsLiteralOf v) l literals k) where
      by_test : (t : Bool) → All (IsLiteralOf v) (cond t clause (clause ++ l ∷ []))
      by_test true = h
      by_test false = All-push (IsLiteralOf v) clause l h (All-head (IsLiteralOf v) l literals k)

AreLiterals-implication : (v place : ℕ) (l : ℤ) → place < v → IsLiteralOf v l → All (IsLiteralOf v) (implication place l)
AreLiterals-implication v place l h k = All-cons (IsLiteralOf v) (literal_at place false) (l ∷ []) (IsLiteralOf-at v place false h) (one v l k)

AreClausesOf-row : (v place : ℕ) (literals : List ℤ) → place < v → All (IsLiteralOf v) literals → AreClausesOf v (row_clauses place literals)
AreClausesOf-row v place literals h k =
    All-push (All (IsLiteralOf v)) (map (implication place) literals) (with_literals (literal_at place true ∷ []) (map neg_ℤ literals))
    (All-map (All (IsLiteralOf v)) (implication place) literals (All-weaker (IsLiteralOf v) (λ l. All (IsLiteralOf v) (implication place l)) (λ l. AreLiterals-implication v place l h) literals k))
    (AreLiterals-with v (literal_at place true ∷ []) (map neg_ℤ literals) (one v (literal_at place true) (IsLiteralOf-at v place true h))
    (All-map (IsLiteralOf v) neg_ℤ literals (All-weaker (IsLiteralOf v) (λ l. IsLiteralOf v (neg_ℤ l)) (IsLiteralOf-negation v) literals k)))

AreClausesOf-rows : (v first : ℕ) (pins : List ℕ) (rows : List (List Mark)) → first + length rows ≤ v → AllByRecursion (λ s. s < v) pins → AreClausesOf v (rows_clauses first pins rows)
AreClausesOf-rows v first pins [] h k = All-nil (All (IsLiteralOf v))
AreClausesOf-rows v first pins (marks ∷ rows) h k =
    All-append (All (IsLiteralOf v)) (row_clauses first (literals_of_row marks pins)) (rows_clauses (suc first) pins rows)
    (AreClausesOf-row v first (literals_of_row marks pins) (omega arith) (AreLiterals-row v marks pins k))
    (AreClausesOf-rows v (suc first) pins rows (omega arith) k)

AreClausesOf-implications : (v first count : ℕ) (l : ℤ) → first + count ≤ v → IsLiteralOf v l → AreClausesOf v (implications first count l)
AreClausesOf-implications v first zero l h k = All-nil (All (IsLiteralOf v))
AreClausesOf-implications v first (suc count) l h k =
    All-cons (All (IsLiteralOf v)) (implication first l) (implications (suc first) count l)
    (AreLiterals-implication v first l (omega arith) k) (AreClausesOf-implications v (suc first) count l (omega arith) k)

AreLiterals-variables : (v first count : ℕ) → first + count ≤ v → All (IsLiteralOf v) (variables_from first count)
AreLiterals-variables v first zero h = All-nil (IsLiteralOf v)
AreLiterals-variables v first (suc count) h =
    All-cons (IsLiteralOf v) (literal_at first true) (variables_from (suc first) count) (IsLiteralOf-at v first true (omega arith)) (AreLiterals-variables v (suc first) count (omega arith))

AreClausesOf-table : (v place first : ℕ) (t : TableValue) → place < v → first + length t.rows ≤ v → AllByRecursion (λ s. s < v) t.pins → AreClausesOf v (table_clauses place first t)
AreClausesOf-table v place first t h k pins =
    let count : ℕ = length t.rows in
    let back : Clause = literal_at place (not t.plane) ∷ variables_from first count in
    All-append (All (IsLiteralOf v)) (rows_clauses first t.pins t.rows) (implications first count (literal_at place t.plane) ++ back ∷ [])
    (AreClausesOf-rows v first t.pins t.rows k pins)
    (All-push (All (IsLiteralOf v)) (implications first count (literal_at place t.plane)) back
    (AreClausesOf-implications v first count (literal_at place t.plane) k (IsLiteralOf-at v place t.plane h))
    (All-cons (IsLiteralOf v) (literal_at place (not t.plane)) (variables_from first count) (IsLiteralOf-at v place (not t.plane) h) (AreLiterals-variables v first count k)))

AreClausesOf-tables : (v place first : ℕ) (tables : List TableValue) → place + length tables ≤ v → first + sum_by (λ t. length t.rows) tables ≤ v
    → AllByRecursion (λ t. AllByRecursion (λ s. s < v) t.pins) tables → AreClausesOf v (tables_clauses place first tables)
AreClausesOf-tables v place first [] h k pins = All-nil (All (IsLiteralOf v))
AreClausesOf-tables v place first (t ∷ tables) h k pins =
    let rows = sum_by-cons (λ (u : TableValue). length u.rows) t tables in
    All-append (All (IsLiteralOf v)) (table_clauses place first t) (tables_clauses (suc place) (first + length t.rows) tables)
    (AreClausesOf-table v place first t (omega arith) (omega (arith, rows)) pins.0)
    (AreClausesOf-tables v (suc place) (first + length t.rows) tables (omega arith) (omega (arith, rows)) pins.1)

pub AreClausesOf-net : (n : ℕ) (tables : List TableValue) → IsAcyclic n tables → AreClausesOf (variable_count n tables) (net_clauses n tables)
unfolding net_clauses
AreClausesOf-net n tables h =
    AreClausesOf-tables (variable_count n tables) n (n + length tables) tables (omega arith) (omega arith)
    (each_pin (λ s. s < variable_count n tables) n tables h (λ s within. omega arith))

pub AreClausesOf-goal : (n : ℕ) (tables : List TableValue) (signal : ℕ) → IsAcyclic n tables → signal < n + length tables → AreClausesOf (variable_count n tables) (goal_clauses n tables signal)
unfolding goal_clauses
AreClausesOf-goal n tables signal h within =
    let v : ℕ = variable_count n tables in
    All-push (All (IsLiteralOf v)) (net_clauses n tables) (literal_at signal true ∷ []) (AreClausesOf-net n tables h)
    (one v (literal_at signal true) (IsLiteralOf-at v signal true (omega arith)))
