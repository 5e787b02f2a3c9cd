-- Differing outputs that are counted, and relative errors that are compared without a division, lane by lane.
use Rattle.std.proofs.Common.{◌≡◌, ◌↔◌, ℕ, zero, suc, ◌+◌, ◌*◌, ◌-◌, ◌^◌, ◌<◌, ◌≤◌, max, Bool, true, false, ◌&&◌, ◌||◌, ltb, List, [], ◌∷◌, length, get_or, set, take, drop, replicate, IsTrue, refl}
use Rattle.std.proofs.Common.{ap, sym, ◌∙◌, subst, inl, inr, arith, get_or-set_same, get_or-set_other, add-one, length-drop, lit<, lit≤}
use Rattle.std.specs.Prelude.{bit_and, bit_or, bit_xor}
use Rattle.std.specs.Int.{from_bool}
use Rattle.std.proofs.Math.Nat.{mul-le-mul, pow-le-pow_right}
use Rattle.std.proofs.lemmas.Grind.{div_ceil_times}
use Rattle.std.proofs.lemmas.Bool.{cases_eq, cases_lt, lt-ltb, le-ltb, ltb-true}
use Rattle.std.proofs.lemmas.List.{drop_more, take_all, get_or-replicate, length-replicate}
use Rattle.semantics.specs.Error.{bit_number, number_of, distance, rounded_up, differing}
use Rattle.semantics.proofs.Vectors.{number_of-lt}
use Rattle.lane_bits.specs.Rows.{turned}
use Rattle.lane_bits.proofs.Bits.{and_bit, or_bit, xor_bit}
use Rattle.lane_nets.specs.Words.{word_bit}
use Rattle.lane_nets.specs.Lanes.{lane_at, lane_number, HasReached}
use Rattle.lane_nets.proofs.WordBits.{ones_bit, zero_bit}
use Rattle.lane_nets.proofs.LaneErrors.{length-lane, lane-bit}

-- ---- one more output is counted

test_next : (j n : ℕ) → ltb (j + 1) (n + 1) ≡ ltb j n
test_next j n =
    elim (cases_lt j n) [
      | inl h ↦ lt-ltb (j + 1) (n + 1) (omega arith) ∙ sym (lt-ltb j n h)
      | inr h ↦ le-ltb (j + 1) (n + 1) (omega arith) ∙ sym (le-ltb j n h)
    ]

reached_none : (before below : Bool) (j n : ℕ) → before ≡ ltb j n → (before || (false && below)) ≡ ltb j (n + 0)
reached_none true below j n is = is ∙ ap (ltb j) (let e : n ≡ n + 0 = omega arith in e)
reached_none false below j n is = is ∙ ap (ltb j) (let e : n ≡ n + 0 = omega arith in e)

reached_one : (before below : Bool) (j n : ℕ) → before ≡ ltb j n → below ≡ ltb j (n + 1) → (before || (true && below)) ≡ ltb j (n + 1)
reached_one true below j n is next = sym (lt-ltb j (n + 1) (let low : j < n = ltb-true j n (sym is) in omega (arith, low)))
reached_one false below j n is next = next

reached_step : (before d below : Bool) (j n : ℕ) → before ≡ ltb j n → below ≡ ltb j (n + 1) → (before || (d && below)) ≡ ltb j (n + bit_number d)
reached_step before true below j n is next = reached_one before below j n is next
reached_step before false below j n is next = reached_none before below j n is

-- the first j words have counted the output whose word is d, and the others are as they were
pub record IsCounting (old new : List ℕ) (d j below b n : ℕ) : Type 0 where
  pub below_is : word_bit below b ≡ ltb j (n + 1)
  pub done : (i : ℕ) → i < j → word_bit (get_or new i 0) b ≡ ltb i (n + lane_number d b)
  pub rest : (i : ℕ) → j ≤ i → get_or new i 0 ≡ get_or old i 0

pub counting_none : (old : List ℕ) (d b n : ℕ) → b < 64 → IsCounting old old d 0 (2 ^ 64 - 1) b n
counting_none old d b n low = record {
  below_is = ones_bit b low ∙ sym (lt-ltb 0 (n + 1) (omega arith));
  done = λ i none. absurd (omega arith);
  rest = λ i high. refl;
}

pub counting_more : (old new : List ℕ) (d j below b n : ℕ) → j < length new → j < length old → HasReached old b n → IsCounting old new d j below b n
    → IsCounting old (set new j (bit_or (get_or new j 0) (bit_and d below))) d (j + 1) (get_or new j 0) b n
counting_more old new d j below b n within room reached c =
    let here : word_bit (get_or new j 0) b ≡ ltb j n = ap (λ w. word_bit w b) (c.rest j (omega arith)) ∙ reached j room in
    record {
      below_is = here ∙ sym (test_next j n);
      done = λ i low.
          elim (cases_eq i j) [
            | inl e ↦
                rw (e, get_or-set_same new j (bit_or (get_or new j 0) (bit_and d below)) 0 within)
                (or_bit (get_or new j 0) (bit_and d below) b
                ∙ ap (λ x. word_bit (get_or new j 0) b || x) (and_bit d below b)
                ∙ reached_step (word_bit (get_or new j 0) b) (word_bit d b) (word_bit below b) j n here c.below_is)
            | inr other ↦ rw (get_or-set_other new j i (bit_or (get_or new j 0) (bit_and d below)) 0 other) (c.done i (omega arith))
          ];
      rest = λ i high. get_or-set_other new j i (bit_or (get_or new j 0) (bit_and d below)) 0 (λ e. omega arith) ∙ c.rest i (omega arith);
    }

pub counting_all : (old new : List ℕ) (d j below b n : ℕ) → length new ≤ j → IsCounting old new d j below b n → HasReached new b (n + lane_number d b)
counting_all old new d j below b n past c i low = c.done i (omega arith)

-- ---- all outputs

differing_more : (xs ys : List Bool) (i : ℕ) → i < length xs → i < length ys
    → differing (take (suc i) xs) (take (suc i) ys) ≡ differing (take i xs) (take i ys) + distance (bit_number (get_or xs i false)) (bit_number (get_or ys i false))
differing_more [] ys i low within = absurd (omega arith)
differing_more (x ∷ xs) [] i low within = absurd (omega arith)
differing_more (x ∷ xs) (y ∷ ys) zero low within = omega arith
differing_more (x ∷ xs) (y ∷ ys) (suc i) low within = omega (arith, differing_more xs ys i (omega arith) (omega arith))

pub differing_le : (xs ys : List Bool) → differing xs ys ≤ length xs
differing_le [] ys = omega arith
differing_le (x ∷ xs) [] = omega arith
differing_le (true ∷ xs) (true ∷ ys) = omega (arith, differing_le xs ys)
differing_le (true ∷ xs) (false ∷ ys) = omega (arith, differing_le xs ys)
differing_le (false ∷ xs) (true ∷ ys) = omega (arith, differing_le xs ys)
differing_le (false ∷ xs) (false ∷ ys) = omega (arith, differing_le xs ys)

turned_number : (x y : Bool) → bit_number (turned y x) ≡ distance (bit_number x) (bit_number y)
turned_number true true = refl
turned_number true false = refl
turned_number false true = refl
turned_number false false = refl

abbrev pub counted : List ℕ → List ℕ → ℕ → ℕ → ℕ
counted exact approx i b = differing (take i (lane_at exact b)) (take i (lane_at approx b))

pub reached_more : (exact approx old new : List ℕ) (i b : ℕ) → i < length exact → length exact ≡ length approx → b < 64
    → ((b n : ℕ) → b < 64 → HasReached old b n → HasReached new b (n + lane_number (bit_xor (get_or exact i 0) (get_or approx i 0)) b))
    → HasReached old b (counted exact approx i b) → HasReached new b (counted exact approx (i + 1) b)
reached_more exact approx old new i b low same inside step before =
    let x : ℕ = get_or exact i 0 in
    let y : ℕ = get_or approx i 0 in
    let xs = lane_at exact b in
    let ys = lane_at approx b in
    let one : lane_number (bit_xor x y) b ≡ distance (bit_number (word_bit x b)) (bit_number (word_bit y b)) =
    ap bit_number (xor_bit x y b) ∙ turned_number (word_bit x b) (word_bit y b) in
    let more = differing_more xs ys i (omega (arith, length-lane exact b, low)) (omega (arith, length-lane approx b, low, same)) in
    let left : get_or xs i false ≡ word_bit x b = lane-bit exact b i low in
    let right : get_or ys i false ≡ word_bit y b = lane-bit approx b i (omega (arith, low, same)) in
    let total : counted exact approx i b + lane_number (bit_xor x y) b ≡ counted exact approx (i + 1) b =
    ap (λ k. counted exact approx i b + k) (one ∙ sym (λ j. distance (bit_number (left j)) (bit_number (right j)))) ∙ sym more ∙ ap (λ k. counted exact approx k b) (sym (add-one i)) in
    subst (HasReached new b) total (step b (counted exact approx i b) inside before)

pub reached_all : (exact approx reached : List ℕ) (i level b : ℕ) → length exact ≤ i → length exact ≡ length approx → level < length reached
    → HasReached reached b (counted exact approx i b) → IsTrue (word_bit (get_or reached level 0) b) ↔ (level < differing (lane_at exact b) (lane_at approx b))
reached_all exact approx reached i level b past same within holds =
    let all : counted exact approx i b ≡ differing (lane_at exact b) (lane_at approx b) =
    (λ j. differing (take_all i (lane_at exact b) (omega (arith, length-lane exact b, past)) j) (take_all i (lane_at approx b) (omega (arith, length-lane approx b, past, same)) j)) in
    let tells : word_bit (get_or reached level 0) b ≡ ltb level (differing (lane_at exact b) (lane_at approx b)) = holds level within ∙ ap (ltb level) all in
    (λ set. ltb-true level (differing (lane_at exact b) (lane_at approx b)) (sym tells ∙ set), λ more. tells ∙ lt-ltb level (differing (lane_at exact b) (lane_at approx b)) more)

pub reached_none_more : (exact approx : List ℕ) (level b : ℕ) → length exact ≤ level → IsTrue (word_bit 0 b) ↔ (level < differing (lane_at exact b) (lane_at approx b))
reached_none_more exact approx level b past = (
  λ set. absurd (let clear = zero_bit b in cc),
  λ more. absurd (omega (arith, more, differing_le (lane_at exact b) (lane_at approx b), length-lane exact b, past)),
)

pub reached_zeros : (words : List ℕ) (n b : ℕ) → words ≡ replicate n 0 → HasReached words b 0
reached_zeros words n b is j low =
    let zero_at : get_or words j 0 ≡ 0 = ap (λ l. get_or l j 0) is ∙ get_or-replicate n j 0 0 (omega (arith, low, ap length is, length-replicate {A = ℕ} n 0)) in
    ap (λ w. word_bit w b) zero_at ∙ zero_bit b ∙ sym (le-ltb j 0 (omega arith))

-- ---- the number of a lane

pub lane_value_more : (words : List ℕ) (i b number : ℕ) → i < length words → number ≡ number_of (lane_at (drop (length words - i) words) b)
    → number * 2 + from_bool (word_bit (get_or words (length words - 1 - i) 0) b) ≡ number_of (lane_at (drop (length words - (i + 1)) words) b)
lane_value_more words i b number low is =
    let k : ℕ = length words - (i + 1) in
    let next : drop k words ≡ get_or words k 0 ∷ drop (k + 1) words = drop_more words k 0 (omega arith) in
    let at : length words - 1 - i ≡ k = omega arith in
    let rest : k + 1 ≡ length words - i = omega arith in
    let whole : number_of (lane_at (drop k words) b) ≡ bit_number (word_bit (get_or words k 0) b) + 2 * number_of (lane_at (drop (length words - i) words) b) =
    ap (λ l. number_of (lane_at l b)) next ∙ ap (λ n. bit_number (word_bit (get_or words k 0) b) + 2 * number_of (lane_at (drop n words) b)) rest in
    omega (arith, whole, is, ap (λ n. from_bool (word_bit (get_or words n 0) b)) at, as_number (word_bit (get_or words k 0) b))
  where
    as_number : (x : Bool) → from_bool x ≡ bit_number x
    as_number true = refl
    as_number false = refl

-- fewer than 64 bits have a number below 2 ^ 63
pub lane_value_fits : (words : List ℕ) (i b number : ℕ) → length words ≤ 64 → i < length words → number ≡ number_of (lane_at (drop (length words - i) words) b) → number < 2 ^ 63
lane_value_fits words i b number few below is =
    let bits = lane_at (drop (length words - i) words) b in
    let short : length bits ≤ 63 = omega (arith, length-lane (drop (length words - i) words) b, length-drop (length words - i) words) in
    omega (arith, is, number_of-lt bits, pow-le-pow_right {n = 2} (lit< tt) short)

pub bit_at_most : (x : Bool) → from_bool x ≤ 1
bit_at_most true = lit≤ tt
bit_at_most false = lit≤ tt

-- ---- relative errors

pub relative_is : (apart whole level : ℕ) → (level * max whole 1 < apart) ↔ (level < rounded_up apart (max 1 whole))
relative_is apart whole level =
    let m : ℕ = max 1 whole in
    let same : max whole 1 ≡ m = omega arith in
    let some : 1 ≤ m = omega arith in
    let near = div_ceil_times apart m some in
    let times : level * max whole 1 ≡ level * m = ap (λ n. level * n) same in (
      λ h. elim (cases_lt level (rounded_up apart m)) [
        | inl more ↦ more
        | inr less ↦ (let most : rounded_up apart m * m ≤ level * m = mul-le-mul less (omega arith) in absurd (omega (arith, near.0, most, h, times)))
      ],
      λ h. (let most : (level + 1) * m ≤ rounded_up apart m * m = mul-le-mul (omega arith) (omega arith) in omega (arith, near.1, most, times)),
    )

pub relative_told : (level e a factor divisor apart : ℕ) → factor ≡ level → divisor ≡ max e 1 → apart ≡ distance e a
    → IsTrue (ltb (factor * divisor) (apart * 1000000)) ↔ (level < rounded_up (distance e a * 1000000) (max 1 e))
relative_told level e a factor divisor apart factor_is divisor_is apart_is =
    let iff = relative_is (distance e a * 1000000) e level in
    let left : factor * divisor ≡ level * max e 1 = (λ i. factor_is i * divisor_is i) in
    let right : apart * 1000000 ≡ distance e a * 1000000 = ap (λ n. n * 1000000) apart_is in (
      λ set. (let less : factor * divisor < apart * 1000000 = ltb-true (factor * divisor) (apart * 1000000) set in iff.0 (omega (arith, less, left, right))),
      λ h. (let less : level * max e 1 < distance e a * 1000000 = iff.1 h in lt-ltb (factor * divisor) (apart * 1000000) (omega (arith, less, left, right))),
    )
