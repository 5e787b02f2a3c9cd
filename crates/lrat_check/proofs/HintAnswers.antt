-- What the literals found so far say of a hint, whatever follows.
use Rattle.std.proofs.Common.{◌≡◌, ℕ, Bool, true, false, cond, List, [], ◌∷◌, ◌++◌, length, get_or, drop, suc, not, ◌<◌, ◌+◌, ◌-◌, eqb, eq-eqb, length-drop, add-one, arith, ◌||◌, refl, ap, sym, ◌∙◌}
use Rattle.std.proofs.Common.{drop-cons, ℤ, pos, neg_ℤ, Option, None, Some, Ok, Err}
use Rattle.std.specs.Prelude.{filter}
use Rattle.std.specs.Ordering.{int_eq}
use Rattle.std.specs.FinSet as literals
use Rattle.std.proofs.lemmas.Bool.{false_from_ne_true, ne_eqb}
use Rattle.std.proofs.lemmas.Bool.Decides.{Decides-int_eq}
use Rattle.proof_semantics.specs.declared.step_refusal.StepRefusal.TheVariants.{NotUnit, NoConflict}
use Rattle.proof_semantics.specs.Clauses.{Clause, has_literal, with_literals}
use Rattle.proof_semantics.specs.Logs.{LiteralSet, with_negations, is_false_in, open_literals, hint_answer, held_answer, is_empty, hints_answer}
use Rattle.lrat_check.specs.Found.{at_most_one}

pub no_conflict : (hint : ℕ) (l : ℤ) (found literals : List ℤ) → hint_answer hint true (with_literals (l ∷ found) literals) ≡ Err NoConflict
no_conflict hint l found [] = refl
no_conflict hint l found (x ∷ literals) = by_test (has_literal (l ∷ found) x) (no_conflict hint l found literals) (no_conflict hint l (found ++ (x ∷ [])) literals) where
  by_test : (t : Bool) → hint_answer hint true (with_literals (l ∷ found) literals) ≡ Err NoConflict → hint_answer hint true (with_literals (l ∷ (found ++ (x ∷ []))) literals) ≡ Err NoConflict
      → hint_answer hint true (with_literals (cond t (l ∷ found) ((l ∷ found) ++ (x ∷ []))) literals) ≡ Err NoConflict
  by_test true h k = h
  by_test false h k = k

pub not_unit : (hint : ℕ) (l m : ℤ) (found literals : List ℤ) → hint_answer hint false (with_literals (l ∷ m ∷ found) literals) ≡ Err (NotUnit hint)
not_unit hint l m found [] = refl
not_unit hint l m found (x ∷ literals) = by_test (has_literal (l ∷ m ∷ found) x) (not_unit hint l m found literals) (not_unit hint l m (found ++ (x ∷ [])) literals) where
  by_test : (t : Bool) → hint_answer hint false (with_literals (l ∷ m ∷ found) literals) ≡ Err (NotUnit hint)
      → hint_answer hint false (with_literals (l ∷ m ∷ (found ++ (x ∷ []))) literals) ≡ Err (NotUnit hint)
      → hint_answer hint false (with_literals (cond t (l ∷ m ∷ found) ((l ∷ m ∷ found) ++ (x ∷ []))) literals) ≡ Err (NotUnit hint)
  by_test true h k = h
  by_test false h k = k

-- a literal that is not false is the next of those
next_open : (set : LiteralSet) (clause : List ℤ) (i : ℕ) (l : ℤ) → i < length clause → l ≡ get_or clause i (pos 0) → is_false_in set l ≡ false
    → filter (λ x. not (is_false_in set x)) (drop i clause) ≡ l ∷ filter (λ x. not (is_false_in set x)) (drop (suc i) clause)
next_open set clause i l within is h =
    ap (filter (λ x. not (is_false_in set x))) (drop-cons clause i (pos 0) within ∙ ap (λ x. x ∷ drop (suc i) clause) (sym is))
    ∙ ap (λ b. cond (not b) (l ∷ filter (λ x. not (is_false_in set x)) (drop (suc i) clause)) (filter (λ x. not (is_false_in set x)) (drop (suc i) clause))) h

pub stops_last : (set : LiteralSet) (clause : List ℤ) (i hint : ℕ) (last : Bool) (found : Option ℤ) (l : ℤ) → i < length clause → l ≡ get_or clause i (pos 0) → is_false_in set l ≡ false
    → last ≡ true → found ≡ None → with_literals (at_most_one found) (filter (λ x. not (is_false_in set x)) (drop i clause)) ≡ open_literals set clause
    → Err NoConflict ≡ hint_answer hint last (open_literals set clause)
stops_last set clause i hint last found l within is h at none e =
    let next = next_open set clause i l within is h in
    let rest : List ℤ = filter (λ x. not (is_false_in set x)) (drop (suc i) clause) in
    let all : with_literals (l ∷ []) rest ≡ open_literals set clause
    = ap (with_literals []) (sym next) ∙ ap (λ f. with_literals (at_most_one f) (filter (λ x. not (is_false_in set x)) (drop i clause))) (sym none) ∙ e in
    let stops = no_conflict hint l [] rest in
    sym (ap (λ t. hint_answer hint t (open_literals set clause)) at ∙ ap (hint_answer hint true) (sym all) ∙ stops)

pub stops_second : (set : LiteralSet) (clause : List ℤ) (i hint : ℕ) (last : Bool) (found : Option ℤ) (first l : ℤ) → i < length clause → l ≡ get_or clause i (pos 0) → is_false_in set l ≡ false
    → last ≡ false → found ≡ Some first → (first ≡ l → ⊥) → with_literals (at_most_one found) (filter (λ x. not (is_false_in set x)) (drop i clause)) ≡ open_literals set clause
    → Err (NotUnit hint) ≡ hint_answer hint last (open_literals set clause)
stops_second set clause i hint last found first l within is h at some apart e =
    let next = next_open set clause i l within is h in
    let rest : List ℤ = filter (λ x. not (is_false_in set x)) (drop (suc i) clause) in
    let new : int_eq first l ≡ false = false_from_ne_true (int_eq first l) (λ same. apart ((Decides-int_eq first l).0 same)) in
    let two : with_literals (first ∷ []) (l ∷ rest) ≡ with_literals (first ∷ l ∷ []) rest = ap (λ t. with_literals (cond (t || false) (first ∷ []) (first ∷ l ∷ [])) rest) new in
    let all : with_literals (first ∷ l ∷ []) rest ≡ open_literals set clause =
    sym two ∙ ap (with_literals (first ∷ [])) (sym next) ∙ ap (λ f. with_literals (at_most_one f) (filter (λ x. not (is_false_in set x)) (drop i clause))) (sym some) ∙ e in
    sym (ap (λ t. hint_answer hint t (open_literals set clause)) at ∙ ap (hint_answer hint false) (sym all) ∙ not_unit hint first l [] rest)

is_empty_drop : (hints : List ℕ) (i : ℕ) → i < length hints → is_empty (drop (suc i) hints) ≡ eqb (i + 1) (length hints)
is_empty_drop hints i within = at_rest (drop (suc i) hints) (length-drop (suc i) hints) where
  at_rest : (rest : List ℕ) → length rest ≡ length hints - suc i → is_empty rest ≡ eqb (i + 1) (length hints)
  at_rest [] e = sym (eq-eqb (i + 1) (length hints) (omega arith))
  at_rest (h ∷ rest) e = sym (ne_eqb (i + 1) (length hints) (λ same. omega arith))

-- after a hint that gave a literal the rest is to be hint_answer with that literal
pub hints_next : (held : ℕ → Option Clause) (set next : LiteralSet) (hints : List ℕ) (i hint : ℕ) (last : Bool) (clause : Clause) (l : ℤ) → i < length hints → hint ≡ get_or hints i 0
    → last ≡ eqb (i + 1) (length hints) → held hint ≡ Some clause → hint_answer hint last (open_literals set clause) ≡ Ok (Some l) → next ≡ literals.insert set l
    → hints_answer held next (drop (i + 1) hints) ≡ hints_answer held set (drop i hints)
hints_next held set next hints i hint last clause l within is at some unit e =
    let apart : drop i hints ≡ hint ∷ drop (suc i) hints = drop-cons hints i 0 within ∙ ap (λ x. x ∷ drop (suc i) hints) (sym is) in
    let end : is_empty (drop (suc i) hints) ≡ last = is_empty_drop hints i within ∙ sym at in
    let answer : held_answer set hint (is_empty (drop (suc i) hints)) (held hint) ≡ Ok (Some l) =
    ap (λ t. held_answer set hint t (held hint)) end ∙ ap (held_answer set hint last) some ∙ unit in
    let step : hints_answer held set (hint ∷ drop (suc i) hints) ≡ hints_answer held (literals.insert set l) (drop (suc i) hints) = rw (answer, hints_answer) refl in
    let more : i + 1 ≡ suc i = add-one i in
    ap (λ s. hints_answer held s (drop (i + 1) hints)) e ∙ ap (λ k. hints_answer held (literals.insert set l) (drop k hints)) more ∙ sym step ∙ ap (hints_answer held set) (sym apart)

-- one more literal's negation
pub negations_next : (set next : LiteralSet) (clause : List ℤ) (i : ℕ) (l : ℤ) → i < length clause → l ≡ get_or clause i (pos 0) → next ≡ literals.insert set (neg_ℤ l)
    → with_negations next (drop (i + 1) clause) ≡ with_negations set (drop i clause)
negations_next set next clause i l within is e =
    let apart : drop i clause ≡ l ∷ drop (suc i) clause = drop-cons clause i (pos 0) within ∙ ap (λ x. x ∷ drop (suc i) clause) (sym is) in
    ap (λ s. with_negations s (drop (i + 1) clause)) e ∙ ap (λ k. with_negations (literals.insert set (neg_ℤ l)) (drop k clause)) (add-one i) ∙ ap (with_negations set) (sym apart)
