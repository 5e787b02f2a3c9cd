-- Variables from a place on that have given values.
use Rattle.std.proofs.Common.{◌≡◌, ℕ, zero, suc, ◌+◌, ◌<◌, Bool, false, List, [], ◌∷◌, ◌++◌, length, get_or, refl, ap, subst, arith}
use Rattle.semantics.specs.Value.{Assignment}

-- the variables from a place on have these values
unfoldable pub AgreesFrom : Assignment → ℕ → List Bool → Type 0
AgreesFrom a first [] = Unit {0}
AgreesFrom a first (b ∷ bs) = (a (suc first) ≡ b) × AgreesFrom a (suc first) bs

pub AgreesFrom-append : (a : Assignment) (xs ys : List Bool) (first n : ℕ) → first + length xs ≡ n → AgreesFrom a first xs → AgreesFrom a n ys → AgreesFrom a first (xs ++ ys)
unfolding AgreesFrom
AgreesFrom-append a [] ys first n e h k = let same : n ≡ first = omega arith in subst (λ m. AgreesFrom a m ys) same k
AgreesFrom-append a (x ∷ xs) ys first n e h k = (h.0, AgreesFrom-append a xs ys (suc first) n (omega arith) h.1 k)

pub AgreesFrom-parts : (a : Assignment) (xs ys : List Bool) (first n : ℕ) → first + length xs ≡ n → AgreesFrom a first (xs ++ ys) → AgreesFrom a first xs × AgreesFrom a n ys
unfolding AgreesFrom
AgreesFrom-parts a [] ys first n e h = let same : first ≡ n = omega arith in (tt, subst (λ m. AgreesFrom a m ys) same h)
AgreesFrom-parts a (x ∷ xs) ys first n e h = let rest = AgreesFrom-parts a xs ys (suc first) n (omega arith) h.1 in ((h.0, rest.0), rest.1)

pub AgreesFrom-at : (a : Assignment) (bs : List Bool) (first j k : ℕ) → AgreesFrom a first bs → j < length bs → first + j ≡ k → a (suc k) ≡ get_or bs j false
unfolding AgreesFrom
AgreesFrom-at a [] first j k h within e = absurd (omega arith)
AgreesFrom-at a (b ∷ bs) first zero k h within e = let same : first ≡ k = omega arith in subst (λ m. a (suc m) ≡ b) same h.0
AgreesFrom-at a (b ∷ bs) first (suc j) k h within e = AgreesFrom-at a bs (suc first) j k h.1 (omega arith) (omega arith)

pub AgreesFrom-from : (a : Assignment) (bs : List Bool) (first : ℕ) → ((j : ℕ) → j < length bs → a (suc (first + j)) ≡ get_or bs j false) → AgreesFrom a first bs
unfolding AgreesFrom
AgreesFrom-from a [] first h = tt
AgreesFrom-from a (b ∷ bs) first h =
    let start : first + 0 ≡ first = omega arith in
    let next = λ (j : ℕ) (within : j < length bs).
    let place : first + suc j ≡ suc first + j = omega arith in
    let at : a (suc (first + suc j)) ≡ get_or bs j false = h (suc j) (omega arith) in
    subst (λ m. a (suc m) ≡ get_or bs j false) place at in
    (subst (λ m. a (suc m) ≡ b) start (h zero (omega arith)), AgreesFrom-from a bs (suc first) next)

-- the values of the `count` variables behind the first `first`
pub values_from : Assignment → ℕ → ℕ → List Bool
values_from a first zero = []
values_from a first (suc count) = a (suc first) ∷ values_from a (suc first) count

pub length-values_from : (a : Assignment) (first count : ℕ) → length (values_from a first count) ≡ count
unfolding values_from
length-values_from a first zero = refl
length-values_from a first (suc count) = ap suc (length-values_from a (suc first) count)

pub AgreesFrom-values_from : (a : Assignment) (first count : ℕ) → AgreesFrom a first (values_from a first count)
unfolding values_from AgreesFrom
AgreesFrom-values_from a first zero = tt
AgreesFrom-values_from a first (suc count) = (refl, AgreesFrom-values_from a (suc first) count)
