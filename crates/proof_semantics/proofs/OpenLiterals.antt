-- Which literals of a clause are open in a set: none where all are false, and one where all others are.
use Rattle.std.proofs.Common.{◌≡◌, ℕ, zero, suc, ◌<◌, Bool, true, false, cond, not, ◌||◌, List, [], ◌∷◌, length, get_or, refl, ap, subst, sym, ◌∙◌, inl, inr, arith, ℤ}
use Rattle.std.specs.Prelude.{filter, ◌⊎◌, All}
use Rattle.std.specs.List.{AllByRecursion, Contains}
use Rattle.std.specs.Ordering.{int_eq}
use Rattle.std.proofs.lemmas.Bool.Decides.{Decides-int_eq}
use Rattle.std.proofs.lemmas.List.Elements.{recursion_from_All}
use Rattle.proof_semantics.specs.Clauses.{Clause, with_literals}
use Rattle.proof_semantics.specs.Logs.{LiteralSet, is_false_in, open_literals}

-- the literals that are not false in the set
kept : LiteralSet → Clause → Clause
kept set clause = filter (λ l. not (is_false_in set l)) clause

-- a literal is the one, or false in the set
IsOneOrFalse : LiteralSet → ℤ → ℤ → Type 0
IsOneOrFalse set l a = (a ≡ l) ⊎ (is_false_in set a ≡ true)

kept-none : (set : LiteralSet) (clause : Clause) → AllByRecursion (λ a. is_false_in set a ≡ true) clause → kept set clause ≡ []
unfolding kept
kept-none set [] h = refl
kept-none set (a ∷ clause) h = ap (λ b. cond (not b) (a ∷ kept set clause) (kept set clause)) h.0 ∙ kept-none set clause h.1

kept-one : (set : LiteralSet) (l : ℤ) (clause : Clause) → AllByRecursion (IsOneOrFalse set l) clause → AllByRecursion (λ a. a ≡ l) (kept set clause)
unfolding kept IsOneOrFalse
kept-one set l [] h = tt
kept-one set l (a ∷ clause) h = by_cases h.0 (kept-one set l clause h.1) where
  by_test : (t : Bool) → a ≡ l → AllByRecursion (λ x. x ≡ l) (kept set clause) → AllByRecursion (λ x. x ≡ l) (cond (not t) (a ∷ kept set clause) (kept set clause))
  by_test true same rest = rest
  by_test false same rest = (same, rest)

  by_cases : (a ≡ l) ⊎ (is_false_in set a ≡ true) → AllByRecursion (λ x. x ≡ l) (kept set clause) → AllByRecursion (λ x. x ≡ l) (kept set (a ∷ clause))
  by_cases (inl same) rest = by_test (is_false_in set a) same rest
  by_cases (inr f) rest = subst (λ t. AllByRecursion (λ x. x ≡ l) (cond (not t) (a ∷ kept set clause) (kept set clause))) (sym f) rest

kept-some : (set : LiteralSet) (l : ℤ) (clause : Clause) (k : ℕ) → is_false_in set l ≡ false → k < length clause → get_or clause k l ≡ l → kept set clause ≡ [] → ⊥
unfolding kept
kept-some set l [] k f within is none = omega arith
kept-some set l (a ∷ clause) zero f within is none =
    let here : is_false_in set a ≡ false = ap (is_false_in set) is ∙ f in
    let some : a ∷ kept set clause ≡ [] = ap (λ b. cond (not b) (a ∷ kept set clause) (kept set clause)) (sym here) ∙ none in
    cc
kept-some set l (a ∷ clause) (suc k) f within is none = by_test (is_false_in set a) refl (kept-some set l clause k f (omega (arith, within)) is) where
  by_test : (t : Bool) → is_false_in set a ≡ t → (kept set clause ≡ [] → ⊥) → ⊥
  by_test true e rest = rest (ap (λ b. cond (not b) (a ∷ kept set clause) (kept set clause)) (sym e) ∙ none)
  by_test false e rest = let some : a ∷ kept set clause ≡ [] = ap (λ b. cond (not b) (a ∷ kept set clause) (kept set clause)) (sym e) ∙ none in cc

with_same : (l : ℤ) (literals : List ℤ) → AllByRecursion (λ a. a ≡ l) literals → with_literals (l ∷ []) literals ≡ l ∷ []
with_same l [] h = refl
with_same l (a ∷ literals) h =
    let here : int_eq l a ≡ true = (Decides-int_eq l a).1 (sym h.0) in
    ap (λ t. with_literals (cond (t || false) (l ∷ []) (l ∷ a ∷ [])) literals) here ∙ with_same l literals h.1

opened : (l : ℤ) (literals : List ℤ) → AllByRecursion (λ a. a ≡ l) literals → (literals ≡ [] → ⊥) → with_literals [] literals ≡ l ∷ []
opened l [] h some = absurd (some refl)
opened l (a ∷ literals) h some = ap (λ x. with_literals (x ∷ []) literals) h.0 ∙ with_same l literals h.1

-- no literal is open where each is false
pub open-none : (set : LiteralSet) (clause : Clause) → All (λ a. is_false_in set a ≡ true) clause → open_literals set clause ≡ []
unfolding kept
open-none set clause h = ap (with_literals []) (kept-none set clause (recursion_from_All (λ a. is_false_in set a ≡ true) clause h))

-- one literal is open where it is not false and each other literal is
pub open-one : (set : LiteralSet) (clause : Clause) (l : ℤ) → Contains clause l → is_false_in set l ≡ false → All (λ a. (a ≡ l) ⊎ (is_false_in set a ≡ true)) clause
    → open_literals set clause ≡ l ∷ []
unfolding kept IsOneOrFalse
open-one set clause l (k, within, is) f h =
    opened l (kept set clause) (kept-one set l clause (recursion_from_All (λ a. (a ≡ l) ⊎ (is_false_in set a ≡ true)) clause h)) (kept-some set l clause k f within is)
