-- Literals that are taken for true, as they join the set of a step.
use Rattle.std.proofs.Common.{◌≡◌, Bool, true, false, cond, not, ◌||◌, [], ◌∷◌, ◌++◌, refl, ap, ◌∙◌, ℤ, neg_ℤ}
use Rattle.std.specs.Prelude.{filter}
use Rattle.std.specs.List.{AllByRecursion}
use Rattle.std.specs.Ordering.{int_eq}
use Rattle.std.specs.Cmp.{int_cmp_total}
use Rattle.std.specs.FinSet as literals
use Rattle.std.specs.FinSet.{contains-insert}
use Rattle.std.proofs.lemmas.Bool.Decides.{Decides-int_eq}
use Rattle.std.proofs.lemmas.Bool.{false_from_ne_true}
use Rattle.std.proofs.lemmas.List.Elements.{filter-append}
use Rattle.semantics.specs.Value.{Assignment}
use Rattle.proof_semantics.specs.Clauses.{Clause, literal_value, has_literal, with_literals}
use Rattle.proof_semantics.specs.Logs.{LiteralSet, with_negations, is_false_in, open_literals}
use Rattle.proof_semantics.proofs.Refutations.{NegationsFail, false_in-fails}

abbrev pub Holds : LiteralSet → ℤ → Type 0
Holds set l = literals.contains set l ≡ true

pub Holds-new : (set : LiteralSet) (l : ℤ) → Holds (literals.insert set l) l
Holds-new set l = let same = (Decides-int_eq l l).1 refl in contains-insert int_cmp_total set l l ∙ ap (λ b. b || literals.contains set l) same

or_right : (b c : Bool) → c ≡ true → (b || c) ≡ true
or_right true c h = refl
or_right false c h = h

pub Holds-more : (set : LiteralSet) (l m : ℤ) → Holds set m → Holds (literals.insert set l) m
Holds-more set l m h = contains-insert int_cmp_total set l m ∙ or_right (int_eq m l) (literals.contains set m) h

pub Holds-negations : (clause : Clause) (set : LiteralSet) (m : ℤ) → Holds set m → Holds (with_negations set clause) m
Holds-negations [] set m h = h
Holds-negations (l ∷ clause) set m h = Holds-negations clause (literals.insert set (neg_ℤ l)) m (Holds-more set (neg_ℤ l) m h)

-- a literal that is true is not false in the set
pub true-open : (a : Assignment) (set : LiteralSet) (l : ℤ) → NegationsFail a set → literal_value a l ≡ true → is_false_in set l ≡ false
true-open a set l h e = false_from_ne_true _ (λ k. let fails = false_in-fails a set l h k in cc)

abbrev pub AllFalse : LiteralSet → Clause → Type 0
AllFalse set clause = AllByRecursion (λ l. is_false_in set l ≡ true) clause

pub AllFalse-more : (set : LiteralSet) (l : ℤ) (clause : Clause) → AllFalse set clause → AllFalse (literals.insert set l) clause
AllFalse-more set l [] h = tt
AllFalse-more set l (m ∷ clause) h = (Holds-more set l (neg_ℤ m) h.0, AllFalse-more set l clause h.1)

pub AllFalse-push : (set : LiteralSet) (clause : Clause) (l : ℤ) → AllFalse set clause → is_false_in set l ≡ true → AllFalse set (clause ++ l ∷ [])
AllFalse-push set [] l h e = (e, tt)
AllFalse-push set (m ∷ clause) l h e = (h.0, AllFalse-push set clause l h.1 e)

-- the literals that are not false in the set
abbrev pub kept : LiteralSet → Clause → Clause
kept set clause = filter (λ l. not (is_false_in set l)) clause

pub kept-open : (set : LiteralSet) (l : ℤ) (clause : Clause) → is_false_in set l ≡ false → kept set (l ∷ clause) ≡ l ∷ kept set clause
kept-open set l clause e = ap (λ b. cond (not b) (l ∷ kept set clause) (kept set clause)) e

pub kept-false : (set : LiteralSet) (l : ℤ) (clause : Clause) → is_false_in set l ≡ true → kept set (l ∷ clause) ≡ kept set clause
kept-false set l clause e = ap (λ b. cond (not b) (l ∷ kept set clause) (kept set clause)) e

pub kept-none : (set : LiteralSet) (clause : Clause) → AllFalse set clause → kept set clause ≡ []
kept-none set [] h = refl
kept-none set (l ∷ clause) h = kept-false set l clause h.0 ∙ kept-none set clause h.1

pub kept-push : (set : LiteralSet) (clause : Clause) (l : ℤ) → is_false_in set l ≡ true → kept set (clause ++ l ∷ []) ≡ kept set clause
kept-push set [] l e = kept-false set l [] e
kept-push set (m ∷ clause) l e = ap (λ rest. cond (not (is_false_in set m)) (m ∷ rest) rest) (kept-push set clause l e)

-- literals that are false in the set add nothing
pub kept-with : (set : LiteralSet) (clause literals : Clause) → AllFalse set literals → kept set (with_literals clause literals) ≡ kept set clause
kept-with set clause [] h = refl
kept-with set clause (l ∷ literals) h = kept-with set (cond (has_literal clause l) clause (clause ++ l ∷ [])) literals h.1 ∙ by_test (has_literal clause l) where
  by_test : (t : Bool) → kept set (cond t clause (clause ++ l ∷ [])) ≡ kept set clause
  by_test true = refl
  by_test false = kept-push set clause l h.0

-- one literal is open, or none
pub open-one : (set : LiteralSet) (clause : Clause) (l : ℤ) → kept set clause ≡ l ∷ [] → open_literals set clause ≡ l ∷ []
open-one set clause l e = ap (with_literals []) e

pub open-none : (set : LiteralSet) (clause : Clause) → AllFalse set clause → open_literals set clause ≡ []
open-none set clause h = ap (with_literals []) (kept-none set clause h)

-- the first literal is true, and the others are false in the set
pub open-first : (a : Assignment) (set : LiteralSet) (l : ℤ) (clause : Clause) → NegationsFail a set → literal_value a l ≡ true → AllFalse set clause
    → open_literals set (l ∷ clause) ≡ l ∷ []
open-first a set l clause h e are_false = open-one set (l ∷ clause) l (kept-open set l clause (true-open a set l h e) ∙ ap (λ rest. l ∷ rest) (kept-none set clause are_false))

-- the last literal is true, and the others are false in the set
pub open-last : (a : Assignment) (set : LiteralSet) (clause : Clause) (l : ℤ) → NegationsFail a set → literal_value a l ≡ true → AllFalse set clause
    → open_literals set (clause ++ l ∷ []) ≡ l ∷ []
open-last a set clause l h e are_false =
    open-one set (clause ++ l ∷ []) l
    (filter-append (λ m. not (is_false_in set m)) clause (l ∷ []) ∙ ap (λ front. front ++ kept set (l ∷ [])) (kept-none set clause are_false) ∙ kept-open set l [] (true-open a set l h e))
