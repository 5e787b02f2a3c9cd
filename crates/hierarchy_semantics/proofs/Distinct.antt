-- Lists whose elements differ.
use Rattle.std.proofs.Common.{◌≡◌, ◌≢◌, zero, suc, List, [], ◌∷◌, ◌++◌, None, AllPairs, refl, sym, subst, inl, inr, arith}
use Rattle.semantics.specs.Texts.{Bytes}
use Rattle.semantics.specs.Refusals.{has_name, first_doubled_after}
use Rattle.semantics.proofs.FirstFound.{none_if}
use Rattle.hierarchy_semantics.proofs.Members.{IsIn, in_left, in_right, in_append, not_before}
use Rattle.hierarchy_semantics.proofs.Parts.{in_get}

abbrev pub Distinct : {X : Type 0} → List X → Type 0
Distinct [] = Unit {0}
Distinct (x ∷ xs) = (IsIn x xs → ⊥) × Distinct xs

abbrev pub Apart : {X : Type 0} → List X → List X → Type 0
Apart {X} xs ys = (z : X) → IsIn z xs → IsIn z ys → ⊥

pub distinct_append : {X : Type 0} (xs ys : List X) → Distinct xs → Distinct ys → Apart xs ys → Distinct (xs ++ ys)
distinct_append [] ys h k apart = k
distinct_append (x ∷ xs) ys h k apart = (
  λ inside. elim (in_append x xs ys inside) [ inl here ↦ h.0 here | inr there ↦ apart x (inl refl) there ],
  distinct_append xs ys h.1 k (λ z a b. apart z (inr a) b),
)

pub distinct_left : {X : Type 0} (xs ys : List X) → Distinct (xs ++ ys) → Distinct xs
distinct_left [] ys h = tt
distinct_left (x ∷ xs) ys h = (λ inside. h.0 (in_left x xs ys inside), distinct_left xs ys h.1)

pub distinct_right : {X : Type 0} (xs ys : List X) → Distinct (xs ++ ys) → Distinct ys
distinct_right [] ys h = h
distinct_right (x ∷ xs) ys h = distinct_right xs ys h.1

pub distinct_apart : {X : Type 0} (xs ys : List X) → Distinct (xs ++ ys) → Apart xs ys
distinct_apart [] ys h z a b = a
distinct_apart (x ∷ xs) ys h z (inl e) b = h.0 (subst (λ w. IsIn w (xs ++ ys)) (sym e) (in_right z xs ys b))
distinct_apart (x ∷ xs) ys h z (inr a) b = distinct_apart xs ys h.1 z a b

distinct_after : (earlier names : List Bytes) → first_doubled_after earlier names ≡ None → Distinct names
distinct_after earlier [] e = tt
distinct_after earlier (name ∷ names) e =
    let rest = (none_if (has_name earlier name) name (first_doubled_after (earlier ++ name ∷ []) names) e).1 in
    (λ inside. not_before (earlier ++ name ∷ []) names name rest inside (in_right name earlier (name ∷ []) (inl refl)), distinct_after (earlier ++ name ∷ []) names rest)

pub distinct_names : (names : List Bytes) → first_doubled_after [] names ≡ None → Distinct names
distinct_names names e = distinct_after [] names e

pub pairs_differ : (names : List Bytes) → Distinct names → AllPairs ◌≢◌ names
pairs_differ [] h i j d before within = absurd (omega (arith, within))
pairs_differ (x ∷ xs) h zero zero d before within = absurd (omega (arith, before))
pairs_differ (x ∷ xs) h (suc i) zero d before within = absurd (omega (arith, before))
pairs_differ (x ∷ xs) h zero (suc j) d before within = λ e. h.0 (in_get xs j d x (omega (arith, within)) (sym e))
pairs_differ (x ∷ xs) h (suc i) (suc j) d before within = pairs_differ xs h.1 i j d (omega (arith, before)) (omega (arith, within))
