-- The bits of a number up to its highest 1.
use Rattle.std.proofs.Common.{◌≡◌, inr, inl, ◌-◌, get_or, length, ◌≢◌, ℕ, zero, suc, ◌/◌, ◌%◌, ◌<◌, ◌≤◌, ◌==◌, Bool, true, false, List, [], ◌∷◌, ⊎_elim, refl, ap, sym, ◌∙◌, arith}
use Rattle.std.proofs.lemmas.Bool.{cases_eq, cases_lt, ne_eqb}
use Rattle.semantics.specs.Error.{bit_number, number_of}
use Rattle.quality_semantics.specs.Buses.{bits_within, binary}

bits_some : (m k : ℕ) → k ≢ 0 → bits_within (suc m) k ≡ (k % 2 == 1) ∷ bits_within m (k / 2)
bits_some m k some = at_test (k == 0) (ne_eqb k 0 some)
  where
    at_test : (b : Bool) → b ≡ false → (elim b [ true ↦ [] | false ↦ (k % 2 == 1) ∷ bits_within m (k / 2) ]) ≡ (k % 2 == 1) ∷ bits_within m (k / 2)
    at_test true e = cc
    at_test false e = refl

-- with room enough, the room makes no difference
bits_room : (m n k : ℕ) → k ≤ m → k ≤ n → bits_within m k ≡ bits_within n k
bits_room zero zero k h g = refl
bits_room zero (suc n) k h g = let none : k ≡ 0 = omega arith in rw none refl
bits_room (suc m) zero k h g = let none : k ≡ 0 = omega arith in rw none refl
bits_room (suc m) (suc n) k h g =
    ⊎_elim (λ (none : k ≡ 0). rw none refl)
    (λ (some : k ≡ 0 → ⊥). bits_some m k some ∙ ap (λ bits. (k % 2 == 1) ∷ bits) (bits_room m n (k / 2) (omega arith) (omega arith)) ∙ sym (bits_some n k some))
    (cases_eq k 0)

pub binary_none : (k : ℕ) → k ≡ 0 → binary k ≡ []
unfolding binary
binary_none k e = rw e refl

pub binary_more : (k : ℕ) → 0 < k → binary k ≡ (k % 2 == 1) ∷ binary (k / 2)
unfolding binary
binary_more zero h = absurd (omega arith)
binary_more (suc m) h =
    bits_some m (suc m) (λ e. omega arith) ∙ ap (λ bits. (suc m % 2 == 1) ∷ bits) (bits_room m (suc m / 2) (suc m / 2) (omega arith) (omega arith))

bit_number_of : (r : ℕ) → r < 2 → bit_number (r == 1) ≡ r
bit_number_of zero h = refl
bit_number_of (suc zero) h = refl
bit_number_of (suc (suc r)) h = absurd (omega arith)

number_of-bits_within : (m k : ℕ) → k ≤ m → number_of (bits_within m k) ≡ k
number_of-bits_within zero k h = omega arith
number_of-bits_within (suc m) k h =
    ⊎_elim (λ (none : k ≡ 0). rw none refl)
    (λ (some : k ≡ 0 → ⊥).
    let here = bit_number_of (k % 2) (omega arith) in
    let rest = number_of-bits_within m (k / 2) (omega arith) in
    rw (bits_some m k some) (omega (arith, here, rest)))
    (cases_eq k 0)

pub number_of-binary : (k : ℕ) → number_of (binary k) ≡ k
unfolding binary
number_of-binary k = number_of-bits_within k k (omega arith)

-- the last item of a list with one more item in front
last_later : (b : Bool) (bits : List Bool) → 0 < length bits → get_or (b ∷ bits) (length (b ∷ bits) - 1) false ≡ get_or bits (length bits - 1) false
last_later b [] some = absurd (omega arith)
last_later b (c ∷ bits) some =
    let outer : suc (suc (length bits)) - 1 ≡ suc (length bits) = omega arith in
    let inner : suc (length bits) - 1 ≡ length bits = omega arith in
    rw (outer, inner) refl

bits_some_within : (m k : ℕ) → k ≤ m → 0 < k → 0 < length (bits_within m k)
bits_some_within zero k h some = absurd (omega arith)
bits_some_within (suc m) k h some = rw (bits_some m k (λ e. omega (arith, e, some))) (omega arith)

highest_within : (m k : ℕ) → k ≤ m → 0 < k → get_or (bits_within m k) (length (bits_within m k) - 1) false ≡ true
highest_within zero k h some = absurd (omega arith)
highest_within (suc m) k h some =
    let here = bits_some m k (λ e. omega (arith, e, some)) in
    elim (cases_lt k 2) [
      | inl low ↦
          let one : k ≡ 1 = omega arith in
          let none : bits_within m (1 / 2) ≡ [] = bits_room m 0 0 (omega arith) (omega arith) in
          rw (here, one, none) refl
      | inr high ↦
          let some_half : 0 < k / 2 = omega arith in
          let rest = highest_within m (k / 2) (omega arith) some_half in
          rw here (last_later (k % 2 == 1) (bits_within m (k / 2)) (bits_some_within m (k / 2) (omega arith) some_half) ∙ rest)
    ]

pub highest_bit : (k : ℕ) → 0 < k → get_or (binary k) (length (binary k) - 1) false ≡ true
unfolding binary
highest_bit k some = highest_within k k (omega arith) some
