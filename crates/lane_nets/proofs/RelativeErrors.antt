-- Relative errors that are compared by products, in wide words.
use Rattle.std.proofs.Common.{◌≡◌, ◌↔◌, ℕ, ◌+◌, ◌*◌, ◌-◌, ◌^◌, ◌<◌, max, Bool, true, false, not, ◌||◌, List, [], ◌∷◌, length, get_or, set, IsTrue, refl, ap, sym, ◌∙◌, inl, inr, arith}
use Rattle.std.specs.Prelude.{bit_or}
use Rattle.std.proofs.Math.Nat.{mul-lt-mul_of_pos_left, lt_of_mul-lt-mul_left, mul-sub}
use Rattle.std.proofs.lemmas.Bool.{cases_lt}
use Rattle.std.proofs.lemmas.Nat.{pow_pos}
use Rattle.semantics.specs.Error.{bit_number, distance, rounded_up}
use Rattle.lane_bits.proofs.Bits.{or_bit}
use Rattle.lane_nets.specs.Words.{word_bit}
use Rattle.lane_nets.specs.Numbers.{wide_number, place_value}
use Rattle.lane_nets.proofs.WordBits.{zero_bit}
use Rattle.lane_nets.proofs.Comparing.{compared_both, either, or_true}
use Rattle.lane_nets.proofs.Counting.{relative_is}

-- ---- a level in lowest terms

-- a common factor of both sides changes nothing
pub terms_less : (f p u small least x y : ℕ) → 0 < f → p ≡ f * small → u ≡ f * least → (small * x < least * y) ↔ (p * x < u * y)
terms_less f p u small least x y some parts unit =
    let left : p * x ≡ f * (small * x) = ap (λ n. n * x) parts ∙ moved f small x in
    let right : u * y ≡ f * (least * y) = ap (λ n. n * y) unit ∙ moved f least y in (
      λ h. (let more : f * (small * x) < f * (least * y) = mul-lt-mul_of_pos_left h some in omega (arith, left, right, more)),
      λ h. lt_of_mul-lt-mul_left f (let more : f * (small * x) < f * (least * y) = omega (arith, left, right, h) in more),
    )
  where
    moved : (a k z : ℕ) → a * k * z ≡ a * (k * z)
    moved a k z = omega arith

-- ---- where a number is not 0

pub some_more : (n i word wide b : ℕ) → (IsTrue (word_bit word b) ↔ (0 < n)) → IsTrue (word_bit (bit_or word wide) b) ↔ (0 < n + place_value (word_bit wide b) i)
some_more n i word wide b before =
    let is = or_bit word wide b in (
      λ set. elim (either (word_bit word b) (word_bit wide b) (sym is ∙ set)) [
        | inl h ↦ (let more = before.0 h in omega (arith, more))
        | inr h ↦ (let value : place_value (word_bit wide b) i ≡ 2 ^ i = ap (λ t. place_value t i) h in omega (arith, value, pow_pos i))
      ],
      λ more. is ∙ elim (cases_lt 0 n) [
        | inl h ↦ ap (λ t. t || word_bit wide b) (before.1 h)
        | inr none ↦ ap (λ t. word_bit word b || t) (counts (word_bit wide b) (omega (arith, more, none))) ∙ or_true (word_bit word b)
      ],
    )
  where
    counts : (t : Bool) → 0 < place_value t i → t ≡ true
    counts true h = refl
    counts false h = absurd (omega (arith, h))

pub some_none : (word b : ℕ) → word ≡ 0 → IsTrue (word_bit word b) ↔ (0 < 0)
some_none word b is =
    let clear : word_bit word b ≡ false = ap (λ w. word_bit w b) is ∙ zero_bit b in
    (λ set. absurd (let none = clear in cc), λ h. absurd (omega (arith, h)))

-- ---- a number, or 1 in place of 0

one_for_none : (x some t : Bool) (rest : ℕ) → t ≡ (x || not some) → (IsTrue some ↔ (0 < bit_number x + 2 * rest)) → bit_number t + 2 * rest ≡ max 1 (bit_number x + 2 * rest)
one_for_none true some true rest is told = omega arith
one_for_none true some false rest is told = absurd cc
one_for_none false true false rest is told = (let more = told.0 refl in omega (arith, more))
one_for_none false true true rest is told = absurd cc
one_for_none false false false rest is told = absurd cc
one_for_none false false true rest is told =
    elim (cases_lt 0 (0 + 2 * rest)) [
      | inl h ↦ absurd (let set = told.1 h in cc)
      | inr none ↦ omega (arith, none)
    ]

pub divisor_is : (number : List (List ℕ)) (wide : List ℕ) (j b : ℕ) (some : Bool) → 0 < length number
    → word_bit (get_or wide j 0) b ≡ (word_bit (get_or (get_or number 0 []) j 0) b || not some) → (IsTrue some ↔ (0 < wide_number number j b))
    → wide_number (set number 0 wide) j b ≡ max 1 (wide_number number j b)
divisor_is [] wide j b some filled is told = absurd (omega (arith, filled))
divisor_is (w ∷ number) wide j b some filled is told = one_for_none (word_bit (get_or w j 0) b) some (word_bit (get_or wide j 0) b) (wide_number number j b) is told

-- ---- the comparison

times_distance : (u e a : ℕ) → distance (u * e) (u * a) ≡ u * distance e a
times_distance u e a =
    let first = mul-sub u e a in
    let second = mul-sub u a e in
    omega (arith, first, second, split u (e - a) (a - e))
  where
    split : (k m n : ℕ) → k * (m + n) ≡ k * m + k * n
    split k m n = omega arith

pub relative_by_terms : (level parts unit e a right wrong margin first second b : ℕ) → ((x y : ℕ) → (parts * x < unit * y) ↔ (level * x < 1000000 * y))
    → right ≡ unit * e → wrong ≡ unit * a → margin ≡ parts * max 1 e → (IsTrue (word_bit first b) ↔ (right + margin < wrong)) → (IsTrue (word_bit second b) ↔ (wrong + margin < right))
    → IsTrue (word_bit (bit_or first second) b) ↔ (level < rounded_up (distance e a * 1000000) (max 1 e))
relative_by_terms level parts unit e a right wrong margin first second b terms right_is wrong_is margin_is one other =
    let apart = compared_both right wrong margin first second b one other in
    let far : distance right wrong ≡ unit * distance e a = (λ i. distance (right_is i) (wrong_is i)) ∙ times_distance unit e a in
    let told = terms (max 1 e) (distance e a) in
    let last = relative_is (distance e a * 1000000) e level in
    let same : level * max e 1 ≡ level * max 1 e = ap (λ n. level * n) (swapped e) in (
      λ set. last.0 (let more = told.0 (let h = apart.0 set in omega (arith, h, far, margin_is)) in omega (arith, more, same)),
      λ h. apart.1 (let more = told.1 (let far_apart = last.1 h in omega (arith, far_apart, same)) in omega (arith, more, far, margin_is)),
    )
  where
    swapped : (n : ℕ) → max n 1 ≡ max 1 n
    swapped n = omega arith
