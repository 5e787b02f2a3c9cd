-- Input vectors in counting order: vector j stands at place j, and each vector stands there once.
use Rattle.std.proofs.Common.{◌≡◌, ℕ, zero, suc, ◌+◌, ◌*◌, ◌/◌, ◌%◌, ◌^◌, ◌<◌, Bool, true, false, ◌==◌, List, [], ◌∷◌, length, slice_get, Some, refl, ap, sym, subst, ◌∙◌, arith}
use Rattle.std.proofs.Math.Nat.{pow-succ'}
use Rattle.std.proofs.lemmas.Option.{slice_get-get_or}
use Rattle.std.proofs.lemmas.List.FromFn.{get_or-map-range_with_len, length-map-range_with_len}
use Rattle.semantics.specs.Error.{bit_number, number_of}
use Rattle.semantics.specs.Vectors.{bits_of, all_vectors}

half_of : (b : Bool) (m : ℕ) → (bit_number b + 2 * m) / 2 ≡ m
half_of false m = omega arith
half_of true m = omega arith

first_bit : (b : Bool) (m : ℕ) → ((bit_number b + 2 * m) % 2 == 1) ≡ b
first_bit false m = let even : (0 + 2 * m) % 2 ≡ 0 = omega arith in rw even refl
first_bit true m = let odd : (1 + 2 * m) % 2 ≡ 1 = omega arith in rw odd refl

pub bits_of-number_of : (x : List Bool) → bits_of (length x) (number_of x) ≡ x
bits_of-number_of [] = refl
bits_of-number_of (b ∷ x) =
    let rest = bits_of-number_of x in
    rw (half_of b (number_of x), first_bit b (number_of x), rest) refl

pub number_of-lt : (x : List Bool) → number_of x < 2 ^ length x
number_of-lt [] = omega arith
number_of-lt (b ∷ x) = at_bit b (number_of-lt x)
  where
    at_bit : (c : Bool) → number_of x < 2 ^ length x → bit_number c + 2 * number_of x < 2 ^ suc (length x)
    at_bit false h = omega (arith, pow-succ' 2 (length x))
    at_bit true h = omega (arith, pow-succ' 2 (length x))

pub length-bits_of : (n j : ℕ) → length (bits_of n j) ≡ n
length-bits_of zero j = refl
length-bits_of (suc n) j = ap suc (length-bits_of n (j / 2))

bit_number_of : (r : ℕ) → r < 2 → bit_number (r == 1) ≡ r
bit_number_of zero h = refl
bit_number_of (suc zero) h = refl
bit_number_of (suc (suc r)) h = absurd (omega arith)

pub number_of-bits_of : (n j : ℕ) → j < 2 ^ n → number_of (bits_of n j) ≡ j
number_of-bits_of zero j h = omega arith
number_of-bits_of (suc n) j h =
    let here = bit_number_of (j % 2) (omega arith) in
    let rest = number_of-bits_of n (j / 2) (omega (arith, pow-succ' 2 n)) in
    omega (arith, here, rest)

pub length-all_vectors : (n : ℕ) → length (all_vectors n) ≡ 2 ^ n
unfolding all_vectors
length-all_vectors n = length-map-range_with_len (bits_of n) 0 (2 ^ n)

-- vector j stands at place j
pub slice_get-all_vectors : (n j : ℕ) → j < 2 ^ n → slice_get (all_vectors n) j ≡ Some (bits_of n j)
unfolding all_vectors
slice_get-all_vectors n j h =
    slice_get-get_or (all_vectors n) j [] (omega (arith, length-all_vectors n))
    ∙ ap Some (get_or-map-range_with_len (bits_of n) 0 (2 ^ n) j j [] h (omega arith))

pub number_of-lt_width : (n : ℕ) (x : List Bool) → length x ≡ n → number_of x < 2 ^ n
number_of-lt_width n x e = subst (λ k. number_of x < 2 ^ k) e (number_of-lt x)

-- what holds of vector j for each j holds of each vector
pub each_vector : (n : ℕ) (P : List Bool → Type 0) → ((j : ℕ) → j < 2 ^ n → P (bits_of n j)) → (x : List Bool) → length x ≡ n → P x
each_vector n P h x e =
    let width : bits_of n (number_of x) ≡ bits_of (length x) (number_of x) = ap (λ k. bits_of k (number_of x)) (sym e) in
    subst P (width ∙ bits_of-number_of x) (h (number_of x) (number_of-lt_width n x e))

-- each vector stands at the place of its number
pub slice_get-number_of : (n : ℕ) (x : List Bool) → length x ≡ n → slice_get (all_vectors n) (number_of x) ≡ Some x
slice_get-number_of n x e = each_vector n (λ y. slice_get (all_vectors n) (number_of y) ≡ Some y)
    (λ j h. subst (λ k. slice_get (all_vectors n) k ≡ Some (bits_of n j)) (sym (number_of-bits_of n j h)) (slice_get-all_vectors n j h)) x e
