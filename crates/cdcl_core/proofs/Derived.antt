-- The learned clause derives.
use Rattle.std.proofs.Math.IntN.{neg_ℤ-neg_ℤ}
use Rattle.std.proofs.Common.{◌≡◌, ℕ, suc, Bool, true, false, ◌||◌, ◌<◌, List, [], ◌∷◌, length, get_or, refl, ap, subst, sym, ◌∙◌, inl, inr, arith, zero, ℤ, neg_ℤ, Option, Some}
use Rattle.std.specs.Prelude.{◌≢◌, ◌⊎◌, All}
use Rattle.std.specs.List.{Contains}
use Rattle.std.specs.FinSet as literals
use Rattle.std.specs.FinSet.{contains-insert, contains-empty}
use Rattle.std.specs.FinMap.{get}
use Rattle.std.specs.Cmp.{int_cmp_total}
use Rattle.std.specs.Ordering.{int_cmp, int_eq}
use Rattle.std.proofs.lemmas.Bool.{cases_eq, false_from_ne_true}
use Rattle.std.proofs.lemmas.Bool.Decides.{Decides-int_eq}
use Rattle.std.proofs.lemmas.List.Elements.{All-contains, All-weaker, All-contains_itself, All-head, All-tail}
use Rattle.proof_semantics.specs.Clauses.{Clause}
use Rattle.proof_semantics.specs.Logs.{StepValue, LiteralSet, with_negations, EndsInConflict, open_literals, held_of, Derives}
use Rattle.proof_semantics.specs.Conflicts.{clause_at}
use Rattle.proof_semantics.proofs.HeldClauses.{held_of-at}
use Rattle.proof_semantics.proofs.OpenLiterals.{open-none, open-one}
use Rattle.cdcl_core.specs.Settled.{IsFalse}
use Rattle.cdcl_core.specs.Trail.{literal_at, IsConsistent, IsReason}
use Rattle.cdcl_core.specs.Explained.{Holds, IsIn, Explains, IsMarked, IsExplained}
use Rattle.cdcl_core.proofs.NewClauses.{not_both}

-- what holds of each element that is contained holds of all
pub all_from_contained : (P : ℤ → Type 0) (C : Clause) → ((a : ℤ) → Contains C a → P a) → All P C
all_from_contained P C f = All-weaker (Contains C) P f C (All-contains_itself C)

-- ---- the set of a step

in-head : (set : LiteralSet) (l : ℤ) → IsIn (literals.insert set l) l
in-head set l = contains-insert int_cmp_total set l l ∙ ap (λ b. b || literals.contains set l) ((Decides-int_eq l l).1 refl)

either : (b c : Bool) → c ≡ true → (b || c) ≡ true
either true c h = refl
either false c h = h

in-tail : (set : LiteralSet) (x l : ℤ) → IsIn set l → IsIn (literals.insert set x) l
in-tail set x l h = contains-insert int_cmp_total set x l ∙ either (int_eq l x) (literals.contains set l) h

in-cases : (P : ℤ → Type 0) (set : LiteralSet) (x l : ℤ) → P x → (IsIn set l → P l) → IsIn (literals.insert set x) l → P l
in-cases P set x l here there h = by_test (int_eq l x) refl (sym (contains-insert int_cmp_total set x l) ∙ h) where
  by_test : (t : Bool) → int_eq l x ≡ t → (t || literals.contains set l) ≡ true → P l
  by_test true e k = subst P (sym ((Decides-int_eq l x).0 e)) here
  by_test false e k = there k

in-empty : (l : ℤ) → IsIn literals.empty l → ⊥
in-empty l h = let none = contains-empty int_cmp l in cc

-- each literal of a clause's negations is one
negations-only : (P : ℤ → Type 0) (C : Clause) (set : LiteralSet) (l : ℤ) → All (λ a. P (neg_ℤ a)) C → (IsIn set l → P l) → IsIn (with_negations set C) l → P l
negations-only P [] set l all there h = there h
negations-only P (a ∷ C) set l all there h =
    negations-only P C (literals.insert set (neg_ℤ a)) l (All-tail (λ b. P (neg_ℤ b)) a C all)
    (in-cases P set (neg_ℤ a) l (All-head (λ b. P (neg_ℤ b)) a C all) there) h

negations-more : (C : Clause) (set : LiteralSet) (l : ℤ) → IsIn set l → IsIn (with_negations set C) l
negations-more [] set l h = h
negations-more (a ∷ C) set l h = negations-more C (literals.insert set (neg_ℤ a)) l (in-tail set (neg_ℤ a) l h)

negations-each : (C : Clause) (set : LiteralSet) (a : ℤ) (k : ℕ) → k < length C → get_or C k a ≡ a → IsIn (with_negations set C) (neg_ℤ a)
negations-each [] set a k within is = absurd (omega arith)
negations-each (b ∷ C) set a zero within is = negations-more C (literals.insert set (neg_ℤ b)) (neg_ℤ a) (subst (λ x. IsIn (literals.insert set (neg_ℤ b)) (neg_ℤ x)) is (in-head set (neg_ℤ b)))
negations-each (b ∷ C) set a (suc k) within is = negations-each C (literals.insert set (neg_ℤ b)) a k (omega (arith, within)) is

-- ---- hints

explains-conflict : (clauses : List Clause) (trail : List ℤ) (j : ℕ) → j < length clauses → Explains clauses trail (λ l. Contains (clause_at clauses j) (neg_ℤ l)) (suc j ∷ [])
explains-conflict clauses trail j within = record {
  along = λ set in_trail has.
      let D : Clause = clause_at clauses j in (
        D,
        held_of-at clauses j (suc j) refl within,
        open-none set D (all_from_contained (λ a. IsIn set (neg_ℤ a)) D (λ a in_D. has (neg_ℤ a) (subst (Contains D) (sym (neg_ℤ-neg_ℤ a)) in_D))),
      );
}

unit-joins : (held : ℕ → Option Clause) (set : LiteralSet) (hints : List ℕ) (id : ℕ) (C : Clause) (l : ℤ) → held id ≡ Some C → open_literals set C ≡ l ∷ []
    → EndsInConflict held (literals.insert set l) hints → EndsInConflict held set (id ∷ hints)
unit-joins held set [] id C l is unit h = absurd h
unit-joins held set (next ∷ hints) id C l is unit h = (C, l, is, unit, h)

explains-resolved : (clauses : List Clause) (trail : List ℤ) (T U : ℤ → Type 0) (hints : List ℕ) (i j : ℕ) → IsConsistent trail → i < length trail → IsReason clauses trail i j
    → ((l : ℤ) → T l → (l ≡ literal_at trail i) ⊎ U l) → ((a : ℤ) → Contains (clause_at clauses j) a → (a ≡ literal_at trail i) ⊎ U (neg_ℤ a))
    → Explains clauses trail T hints → Explains clauses trail U (suc j ∷ hints)
explains-resolved clauses trail T U hints i j c within reason left others h = record {
  along = λ set in_trail has.
      let x : ℤ = literal_at trail i in
      let D : Clause = clause_at clauses j in
      let true_x : Holds trail x = record { place = i; below = within; within = within; is = refl } in
      unit-joins (get (held_of clauses)) set hints (suc j) D x (held_of-at clauses j (suc j) refl reason.held)
      (open-one set D x reason.inside
      (false_from_ne_true _ (λ in_set. not_both trail (length trail) (length trail) x c true_x (in_trail (neg_ℤ x) in_set)))
      (all_from_contained (λ a. (a ≡ x) ⊎ IsIn set (neg_ℤ a)) D
      (λ a in_D. elim (others a in_D) [
        | inl e ↦ inl e
        | inr u ↦ inr (has (neg_ℤ a) u)
      ])))
      (h.along (literals.insert set x)
      (λ l. in-cases (Holds trail) set x l true_x (in_trail l))
      (λ l t. elim (left l t) [
        | inl e ↦ subst (IsIn (literals.insert set x)) (sym e) (in-head set x)
        | inr u ↦ in-tail set x l (has l u)
      ]));
}

explains-weaker : (clauses : List Clause) (trail : List ℤ) (T U : ℤ → Type 0) (hints : List ℕ) → ((l : ℤ) → T l → U l) → Explains clauses trail T hints → Explains clauses trail U hints
explains-weaker clauses trail T U hints to h = record { along = λ set in_trail has. h.along set in_trail (λ l t. has l (to l t)) }

explains-derives : (clauses : List Clause) (trail : List ℤ) (T : ℤ → Type 0) (s : StepValue) → IsFalse (Holds trail) s.literals
    → ((l : ℤ) → T l → Contains s.literals (neg_ℤ l)) → Explains clauses trail T s.hints → Derives (held_of clauses) s
explains-derives clauses trail T s are_false kept h =
    h.along (with_negations literals.empty s.literals)
    (λ l in_set. negations-only (Holds trail) s.literals literals.empty l are_false (λ none. absurd (in-empty l none)) in_set)
    (λ l t.
    let inside = kept l t in
    subst (IsIn (with_negations literals.empty s.literals)) (neg_ℤ-neg_ℤ l) (negations-each s.literals literals.empty (neg_ℤ l) inside.0 inside.1 inside.2))

-- the conflict's clause over marks: its entries are explained by its hint
pub marks-conflict : (clauses : List Clause) (trail : List ℤ) (marks : List Bool) (j : ℕ) → j < length clauses
    → All (λ a. IsMarked trail marks (neg_ℤ a)) (clause_at clauses j) → IsExplained clauses trail marks (suc j ∷ [])
marks-conflict clauses trail marks j within covered =
    let D : Clause = clause_at clauses j in
    explains-weaker clauses trail (λ l. Contains D (neg_ℤ l)) (IsMarked trail marks) (suc j ∷ [])
    (λ l in_D. subst (IsMarked trail marks) (neg_ℤ-neg_ℤ l) (All-contains (λ a. IsMarked trail marks (neg_ℤ a)) D (neg_ℤ l) covered in_D))
    (explains-conflict clauses trail j within)

pub marks-resolved : (clauses : List Clause) (trail : List ℤ) (marks after : List Bool) (hints : List ℕ) (i j : ℕ) → IsConsistent trail → i < length trail → IsReason clauses trail i j
    → ((p : ℕ) → p ≢ i → get_or marks p false ≡ true → get_or after p false ≡ true)
    → All (λ a. (a ≡ literal_at trail i) ⊎ IsMarked trail after (neg_ℤ a)) (clause_at clauses j)
    → IsExplained clauses trail marks hints → IsExplained clauses trail after (suc j ∷ hints)
marks-resolved clauses trail marks after hints i j c within reason kept others h =
    explains-resolved clauses trail (IsMarked trail marks) (IsMarked trail after) hints i j c within reason
    (λ l m. elim (cases_eq m.place i) [
      | inl e ↦ inl (sym m.is ∙ ap (literal_at trail) e)
      | inr other ↦ inr (record { place = m.place; within = m.within; marked = kept m.place other m.marked; is = m.is })
    ])
    (λ a in_D. All-contains (λ b. (b ≡ literal_at trail i) ⊎ IsMarked trail after (neg_ℤ b)) (clause_at clauses j) a others in_D)
    h

pub marks-derives : (clauses : List Clause) (trail : List ℤ) (marks : List Bool) (s : StepValue) → IsFalse (Holds trail) s.literals
    → ((p : ℕ) → p < length trail → get_or marks p false ≡ true → Contains s.literals (neg_ℤ (literal_at trail p)))
    → IsExplained clauses trail marks s.hints → Derives (held_of clauses) s
marks-derives clauses trail marks s are_false kept h =
    explains-derives clauses trail (IsMarked trail marks) s are_false
    (λ l m. subst (λ x. Contains s.literals (neg_ℤ x)) m.is (kept m.place m.within m.marked)) h
