-- The hints of a table decide its variable.
use Rattle.std.proofs.Common.{◌≡◌, ℕ, suc, ◌+◌, ◌<◌, Bool, true, false, cond, not, ◌||◌, List, [], ◌∷◌, ◌++◌, length, map, refl, ap, ◌∙◌, arith, append_assoc, inl, inr, ◌⊎◌, ℤ, neg_ℤ, Option}
use Rattle.std.specs.List.{AllByRecursion, list_any}
use Rattle.std.specs.FinSet as literals
use Rattle.std.proofs.lemmas.Bool.{or_parts}
use Rattle.std.proofs.lemmas.List.{append-nil}
use Rattle.semantics.specs.declared.mark.Mark.{Mark}
use Rattle.semantics.specs.Net.{row_literals}
use Rattle.semantics.specs.Value.{Assignment, row_matches}
use Rattle.proof_semantics.specs.Clauses.{Clause, literal_value, with_literals}
use Rattle.proof_semantics.specs.NetClauses.{literal_at, literals_of_row, implication, row_clauses, rows_clauses, implications, variables_from}
use Rattle.proof_semantics.specs.Logs.{LiteralSet, open_literals, is_empty, EndsInConflict}
use Rattle.proof_semantics.proofs.Refutations.{NegationsFail, NegationsFail-insert, negation_fails}
use Rattle.proof_semantics.proofs.Agreement.{AgreesFrom}
use Rattle.proof_semantics.proofs.Counts.{length-literals_of_row, length-row_clauses}
use Rattle.case_tree.specs.Cases.{row_hint, match_hints, failing_hints, asked_by_row, asked_by_match, asked_by_rows}
use Rattle.case_tree.proofs.Sets.{Holds, Holds-new, Holds-more, true-open, AllFalse, AllFalse-more, AllFalse-push, kept-open, kept-false, kept-with, open-one, open-first}
use Rattle.case_tree.proofs.Units.{AreHeldFrom, AreHeldFrom-parts, unit-hint}
use Rattle.case_tree.proofs.Needs.{IsNeeded, failing-keeps, length-rows}
use Rattle.case_tree.proofs.Rows.{Knows, row_hint-matching, matching-false, row_hint-failing}

-- one true literal more
pub NegationsFail-more : (a : Assignment) (set : LiteralSet) (l : ℤ) → NegationsFail a set → literal_value a l ≡ true → NegationsFail a (literals.insert set l)
NegationsFail-more a set l h e = NegationsFail-insert a set l h (negation_fails a l e)

pub Knows-more : (v : Assignment) (set : LiteralSet) (known : ℕ → Type 0) (l : ℤ) → Knows v set known → Knows v (literals.insert set l) known
Knows-more v set known l k s is_known = Holds-more set l (literal_at s (v s)) (k s is_known)

-- one more signal is known
pub Knows-next : (v : Assignment) (set : LiteralSet) (known later : ℕ → Type 0) (place : ℕ) (b : Bool) → ((s : ℕ) → later s → known s ⊎ (s ≡ place)) → Knows v set known → v place ≡ b
    → Knows v (literals.insert set (literal_at place b)) later
Knows-next v set known later place b split k e s is_later =
    elim (split s is_later) [
      | inl before ↦ Holds-more set (literal_at place b) (literal_at s (v s)) (k s before)
      | inr same ↦ rw (same, e) (Holds-new set (literal_at place b))
    ]

pub literal_at-true : (a : Assignment) (place : ℕ) (b : Bool) → a (suc place) ≡ b → literal_value a (literal_at place b) ≡ true
literal_at-true a place true e = e
literal_at-true a place false e = ap not e

-- what the propagation has after a table: the hints behind it end in a conflict
abbrev pub Goes : Assignment → Assignment → (ℕ → Option Clause) → (ℕ → Type 0) → List ℕ → Type 0
Goes a v held known rest = (set : LiteralSet) → NegationsFail a set → Knows v set known → EndsInConflict held set rest

-- the clause of a row that matches, all of whose literals are true
open-whole : (a : Assignment) (set : LiteralSet) (row : ℕ) (asked : List ℤ) → NegationsFail a set → a (suc row) ≡ true → AllFalse set (map neg_ℤ asked)
    → open_literals set (with_literals (literal_at row true ∷ []) (map neg_ℤ asked)) ≡ literal_at row true ∷ []
open-whole a set row asked h e are_false =
    open-one set (with_literals (literal_at row true ∷ []) (map neg_ℤ asked)) (literal_at row true)
    (kept-with set (literal_at row true ∷ []) (map neg_ℤ asked) are_false ∙ kept-open set (literal_at row true) [] (true-open a set (literal_at row true) h e))

-- the clause that a row implies a literal: it gives the literal where the row is in the set
open-implied : (a : Assignment) (set : LiteralSet) (row : ℕ) (l : ℤ) → NegationsFail a set → literal_value a l ≡ true → Holds set (literal_at row true)
    → open_literals set (implication row l) ≡ l ∷ []
open-implied a set row l h e holds =
    open-one set (implication row l) l (kept-false set (literal_at row false) (l ∷ []) holds ∙ kept-open set l [] (true-open a set l h e))

-- A row that matches, from one of the rows on: its hints give the table's value.
pub match-decides : (a v : Assignment) (held : ℕ → Option Clause) (known later : ℕ → Type 0) (size place : ℕ) (plane : Bool) (pins rest : List ℕ) (needed : List Bool) (behind : List Clause)
    → ((s : ℕ) → later s → known s ⊎ (s ≡ place)) → AllByRecursion (λ s. s < size) pins → length needed ≡ size → a (suc place) ≡ v place → v place ≡ plane
    → is_empty rest ≡ false → Goes a v held later rest
    → (rows : List (List Mark)) (first next implied : ℕ) (set : LiteralSet)
    → ((q : ℕ) → IsNeeded (asked_by_match pins rows v needed) q → known q)
    → AllByRecursion (λ marks. length marks ≡ length pins) rows
    → AreHeldFrom held next (rows_clauses first pins rows)
    → AreHeldFrom held implied (implications first (length rows) (literal_at place plane) ++ behind)
    → AgreesFrom a first (map (λ marks. row_matches marks pins v) rows)
    → list_any (λ marks. row_matches marks pins v) rows ≡ true
    → NegationsFail a set → Knows v set known
    → EndsInConflict held set (match_hints next implied pins rows v ++ rest)
unfolding AgreesFrom
match-decides a v held known later size place plane pins rest needed behind split within as_many same value more goes [] first next implied set asked widths clauses implying agree any h k = cc
match-decides a v held known later size place plane pins rest needed behind split within as_many same value more goes (marks ∷ rows) first next implied set asked widths clauses implying agree any h k
    =
    at_row (row_matches marks pins v) refl agree.0 any asked
    (λ asked' any'. match-decides a v held known later size place plane pins rest needed behind split within as_many same value more goes rows (suc first) (next + row_literals marks + 1)
    (implied + 1) set asked' widths.1 apart.1 implying.1 agree.1 any' h k) where
      whole : Clause
      whole = with_literals (literal_at first true ∷ []) (map neg_ℤ (literals_of_row marks pins))

      apart : AreHeldFrom held next (row_clauses first (literals_of_row marks pins)) × AreHeldFrom held (next + row_literals marks + 1) (rows_clauses (suc first) pins rows)
      apart =
          AreHeldFrom-parts held (row_clauses first (literals_of_row marks pins)) (rows_clauses (suc first) pins rows) next (next + row_literals marks + 1)
          (omega (arith, length-row_clauses first (literals_of_row marks pins), length-literals_of_row marks pins widths.0)) clauses

      at_row : (t : Bool) → row_matches marks pins v ≡ t → a (suc first) ≡ row_matches marks pins v
          → (t || list_any (λ ms. row_matches ms pins v) rows) ≡ true
          → ((q : ℕ) → IsNeeded (cond t (asked_by_row marks pins needed) (asked_by_match pins rows v needed)) q → known q)
          → (((q : ℕ) → IsNeeded (asked_by_match pins rows v needed) q → known q) → list_any (λ ms. row_matches ms pins v) rows ≡ true
          → EndsInConflict held set (match_hints (next + row_literals marks + 1) (implied + 1) pins rows v ++ rest))
          → EndsInConflict held set (cond t (row_hint next marks pins v ∷ implied ∷ []) (match_hints (next + row_literals marks + 1) (implied + 1) pins rows v) ++ rest)
      at_row true is here any' asked' rec =
          let row : ℤ = literal_at first true in
          let l : ℤ = literal_at place plane in
          let row_true : a (suc first) ≡ true = here ∙ is in
          let is_true = literal_at-true a place plane (same ∙ value) in
          let set' : LiteralSet = literals.insert set row in
          let h' = NegationsFail-more a set row h row_true in
          let end : EndsInConflict held set' (implied ∷ rest) =
          unit-hint held set' implied (implication first l) l rest implying.0 (open-implied a set' first l h' is_true (Holds-new set row)) more
          (goes (literals.insert set' l) (NegationsFail-more a set' l h' is_true) (Knows-next v set' known later place plane split (Knows-more v set known row k) value)) in
          unit-hint held set (row_hint next marks pins v) whole row (implied ∷ rest)
          (row_hint-matching held v first whole next marks pins apart.0 is)
          (open-whole a set first (literals_of_row marks pins) h row_true (matching-false v set known size marks pins needed k as_many within asked' is)) refl end
      at_row false is here any' asked' rec = rec asked' any'

-- some hint follows
some-hint : (next implied : ℕ) (pins : List ℕ) (rows : List (List Mark)) (v : Assignment) (rest : List ℕ) → is_empty (failing_hints next implied pins rows v ++ rest) ≡ false
some-hint next implied pins [] v rest = refl
some-hint next implied pins (marks ∷ rows) v rest = refl

-- No row matches, and the variables of the rows before one are false: the hints give the table's value.
pub failing-decide : (a v : Assignment) (held : ℕ → Option Clause) (known later : ℕ → Type 0) (size place : ℕ) (plane : Bool) (pins rest : List ℕ) (needed : List Bool)
    → ((s : ℕ) → later s → known s ⊎ (s ≡ place)) → AllByRecursion (λ s. s < size) pins → length needed ≡ size → a (suc place) ≡ v place → v place ≡ not plane
    → is_empty rest ≡ false → Goes a v held later rest
    → (rows : List (List Mark)) (first next implied : ℕ) (before : Clause) (set : LiteralSet)
    → ((q : ℕ) → IsNeeded (asked_by_rows pins rows v needed) q → known q)
    → AllByRecursion (λ marks. length marks ≡ length pins) rows
    → AreHeldFrom held next (rows_clauses first pins rows)
    → AreHeldFrom held implied (implications first (length rows) (literal_at place plane) ++ (literal_at place (not plane) ∷ (before ++ variables_from first (length rows))) ∷ [])
    → AgreesFrom a first (map (λ marks. row_matches marks pins v) rows)
    → list_any (λ marks. row_matches marks pins v) rows ≡ false
    → NegationsFail a set → Knows v set known → AllFalse set before
    → EndsInConflict held set (failing_hints next implied pins rows v ++ rest)
unfolding AgreesFrom
failing-decide a v held known later size place plane pins rest needed split within as_many same value more goes [] first next implied before set asked widths clauses behind agree none h k are_false =
    let l : ℤ = literal_at place (not plane) in
    let nothing : before ++ [] ≡ before = append-nil before in
    let is_true = literal_at-true a place (not plane) (same ∙ value) in
    let unit : open_literals set (l ∷ (before ++ [])) ≡ l ∷ [] = rw nothing (open-first a set l before h is_true are_false) in
    unit-hint held set implied (l ∷ (before ++ [])) l rest behind.0 unit more
    (goes (literals.insert set l) (NegationsFail-more a set l h is_true) (Knows-next v set known later place (not plane) split k value))
failing-decide a v held known later size place plane pins rest needed split within as_many same value more goes (marks ∷ rows) first next implied before set asked widths clauses behind agree none h k
    are_false =
    let others : List Bool = asked_by_rows pins rows v needed in
    let fails = or_parts (row_matches marks pins v) (list_any (λ ms. row_matches ms pins v) rows) none in
    let whole : Clause = with_literals (literal_at first true ∷ []) (map neg_ℤ (literals_of_row marks pins)) in
    let apart : AreHeldFrom held next (row_clauses first (literals_of_row marks pins)) × AreHeldFrom held (next + row_literals marks + 1) (rows_clauses (suc first) pins rows) =
    AreHeldFrom-parts held (row_clauses first (literals_of_row marks pins)) (rows_clauses (suc first) pins rows) next (next + row_literals marks + 1)
    (omega (arith, length-row_clauses first (literals_of_row marks pins), length-literals_of_row marks pins widths.0)) clauses in
    let failing = row_hint-failing held v set known size first whole next marks pins others k (length-rows pins rows v needed ∙ as_many) within asked apart.0 fails.0 in
    let row : ℤ = literal_at first false in
    let row_false : a (suc first) ≡ false = agree.0 ∙ fails.0 in
    let is_true = literal_at-true a first false row_false in
    let set' : LiteralSet = literals.insert set row in
    let h' = NegationsFail-more a set row h is_true in
    let shifted = append_assoc before (literal_at first true ∷ []) (variables_from (suc first) (length rows)) in
    let behind' : AreHeldFrom held (implied + 1) (implications (suc first) (length rows) (literal_at place plane)
    ++ (literal_at place (not plane) ∷ ((before ++ literal_at first true ∷ []) ++ variables_from (suc first) (length rows))) ∷ []) =
    rw shifted behind.1 in
    let further = failing-decide a v held known later size place plane pins rest needed split within as_many same value more goes rows (suc first) (next + row_literals marks + 1) (implied + 1)
    (before ++ literal_at first true ∷ []) set' (λ q is. asked q (failing-keeps marks pins v others q is)) widths.1 apart.1 behind' agree.1 fails.1 h' (Knows-more v set known row k)
    (AllFalse-push set' before (literal_at first true) (AllFalse-more set row before are_false) (Holds-new set row)) in
    unit-hint held set (row_hint next marks pins v) (implication first failing.0) row (failing_hints (next + row_literals marks + 1) (implied + 1) pins rows v ++ rest)
    failing.1 (open-first a set row (failing.0 ∷ []) h is_true (failing.2, tt)) (some-hint (next + row_literals marks + 1) (implied + 1) pins rows v rest) further
