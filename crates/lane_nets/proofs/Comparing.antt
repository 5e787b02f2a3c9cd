-- The comparison of two numbers, from the lowest bit on, in words.
use Rattle.std.proofs.Common.{◌≡◌, ◌↔◌, ℕ, ◌+◌, ◌*◌, ◌/◌, ◌%◌, ◌^◌, ◌<◌, ◌≤◌, Bool, true, false, not, ◌&&◌, ◌||◌, ◌==◌, List, length, get_or, drop, w64, refl, ap, sym, ◌∙◌, IsTrue, zero, suc, ◌⊎◌}
use Rattle.std.proofs.Common.{inl, inr, arith}
use Rattle.std.specs.Prelude.{bit_and, bit_or, bit_xor}
use Rattle.std.specs.Int.{bit_not}
use Rattle.std.proofs.lemmas.Nat.{xor_lt}
use Rattle.std.proofs.lemmas.List.{drop_more, drop_all}
use Rattle.std.proofs.lemmas.Bool.{cases_lt}
use Rattle.semantics.specs.Error.{bit_number, number_of, distance}
use Rattle.lane_bits.specs.Rows.{turned}
use Rattle.lane_bits.proofs.Bits.{and_bit, or_bit, xor_bit, flips}
use Rattle.lane_nets.specs.Words.{word_bit}
use Rattle.lane_nets.specs.Lanes.{lane_at, lane_number, lane_so_far, GoesOn}
use Rattle.lane_nets.specs.Numbers.{sum_of, carry_of}
use Rattle.lane_nets.proofs.WordBits.{not_bit, ones_bit, zero_bit}

-- ---- one bit

abbrev pub above_of : Bool → Bool → Bool → Bool
above_of high sum above = (high && not sum) || (above && not (turned sum high))

added : (low one carry : Bool) → bit_number low + bit_number one + bit_number carry ≡ bit_number (sum_of low one carry) + 2 * bit_number (carry_of low one carry)
added false false false = refl
added false false true = refl
added false true false = refl
added false true true = refl
added true false false = refl
added true false true = refl
added true true false = refl
added true true true = refl

compared : (high sum above : Bool) (x y : ℕ) → (bit_number sum + 2 * x < bit_number high + 2 * y + bit_number above) ↔ (x < y + bit_number (above_of high sum above))
compared false false false x y = (λ h. omega arith, λ h. omega arith)
compared false false true x y = (λ h. omega arith, λ h. omega arith)
compared false true false x y = (λ h. omega arith, λ h. omega arith)
compared false true true x y = (λ h. omega arith, λ h. omega arith)
compared true false false x y = (λ h. omega arith, λ h. omega arith)
compared true false true x y = (λ h. omega arith, λ h. omega arith)
compared true true false x y = (λ h. omega arith, λ h. omega arith)
compared true true true x y = (λ h. omega arith, λ h. omega arith)

pub goes_on : (low high one carry above new_carry new_above : Bool) → new_carry ≡ carry_of low one carry → new_above ≡ above_of high (sum_of low one carry) above
    → GoesOn (bit_number low) (bit_number high) (bit_number one) (record { carry = bit_number carry; above = bit_number above })
    (record { carry = bit_number new_carry; above = bit_number new_above })
goes_on low high one carry above new_carry new_above is_carry is_above x y =
    let total = added low one carry in
    let both = compared high (sum_of low one carry) above (x + bit_number (carry_of low one carry)) y in
    let c = ap bit_number is_carry in
    let a = ap bit_number is_above in (
      λ h. (let next = both.0 (omega (arith, total, h)) in omega (arith, next, c, a)),
      λ h. (let next = both.1 (omega (arith, h, c, a)) in omega (arith, total, next)),
    )

-- ---- one bit of each lane

constant_bit : (one : Bool) (b : ℕ) → b < 64 → word_bit (flips one) b ≡ one
constant_bit true b low = ones_bit b low
constant_bit false b low = zero_bit b

constant_fits : (one : Bool) → flips one < 2 ^ 64
constant_fits true = omega arith
constant_fits false = omega arith

pub compared_words : (low high constant carry above : ℕ) (one : Bool) → constant ≡ flips one → low < 2 ^ 64 → high < 2 ^ 64 → carry < 2 ^ 64
    → (b : ℕ) → b < 64
    → GoesOn (lane_number low b) (lane_number high b) (bit_number one) (lane_so_far carry above b)
    (lane_so_far (bit_or (bit_and low constant) (bit_and (bit_xor low constant) carry))
    (bit_or (bit_and high (bit_not w64 (bit_xor (bit_xor low constant) carry))) (bit_and above (bit_not w64 (bit_xor high (bit_xor (bit_xor low constant) carry))))) b)
compared_words low high constant carry above one is low_fits high_fits carry_fits b within =
    let half : ℕ = bit_xor low constant in
    let sum : ℕ = bit_xor half carry in
    let constant_low : constant < 2 ^ 64 = omega (arith, is, constant_fits one) in
    let sum_low : sum < 2 ^ 64 = xor_lt 64 half carry (xor_lt 64 low constant low_fits constant_low) carry_fits in
    let one_is : word_bit constant b ≡ one = ap (λ w. word_bit w b) is ∙ constant_bit one b within in
    let half_is : word_bit half b ≡ turned one (word_bit low b) = xor_bit low constant b ∙ ap (λ t. turned t (word_bit low b)) one_is in
    let sum_is : word_bit sum b ≡ sum_of (word_bit low b) one (word_bit carry b) = xor_bit half carry b ∙ ap (turned (word_bit carry b)) half_is in
    let apart_is : word_bit (bit_xor high sum) b ≡ turned (sum_of (word_bit low b) one (word_bit carry b)) (word_bit high b) =
    xor_bit high sum b ∙ ap (λ t. turned t (word_bit high b)) sum_is in
    goes_on (word_bit low b) (word_bit high b) one (word_bit carry b) (word_bit above b) _ _
    (or_bit (bit_and low constant) (bit_and half carry) b
    ∙ (λ j. (and_bit low constant b ∙ ap (λ t. word_bit low b && t) one_is) j || (and_bit half carry b ∙ ap (λ t. t && word_bit carry b) half_is) j))
    (or_bit (bit_and high (bit_not w64 sum)) (bit_and above (bit_not w64 (bit_xor high sum))) b
    ∙ (λ j. (and_bit high (bit_not w64 sum) b ∙ ap (λ t. word_bit high b && t) (not_bit sum b sum_low within ∙ ap not sum_is)) j
    || (and_bit above (bit_not w64 (bit_xor high sum)) b
    ∙ ap (λ t. word_bit above b && t) (not_bit (bit_xor high sum) b (xor_lt 64 high sum high_fits sum_low) within ∙ ap not apart_is)) j))

-- ---- all bits

pub digit : (r : ℕ) → r < 2 → bit_number (r == 1) ≡ r
digit zero h = refl
digit (suc zero) h = refl
digit (suc (suc r)) h = absurd (omega arith)

pub number_from : (words : List ℕ) (i b : ℕ) → i < length words
    → number_of (lane_at (drop i words) b) ≡ lane_number (get_or words i 0) b + 2 * number_of (lane_at (drop (i + 1) words) b)
number_from words i b low = ap (λ l. number_of (lane_at l b)) (drop_more words i 0 low)

module _ (low high : List ℕ) (i b rest carry above : ℕ) (P : Type 0) (same : length low ≡ length high)
    (before : (number_of (lane_at (drop i low) b) + rest + lane_number carry b < number_of (lane_at (drop i high) b) + lane_number above b) ↔ P) where
  -- one more bit
  pub compare_more : (new_carry new_above : ℕ) → i < length low
      → GoesOn (lane_number (get_or low i 0) b) (lane_number (get_or high i 0) b) (bit_number (rest % 2 == 1)) (lane_so_far carry above b) (lane_so_far new_carry new_above b)
      → (number_of (lane_at (drop (i + 1) low) b) + rest / 2 + lane_number new_carry b < number_of (lane_at (drop (i + 1) high) b) + lane_number new_above b) ↔ P
  compare_more new_carry new_above within step =
      let here = step (number_of (lane_at (drop (i + 1) low) b) + rest / 2) (number_of (lane_at (drop (i + 1) high) b)) in
      let lows = number_from low i b within in
      let highs = number_from high i b (omega (arith, within, same)) in
      let one = digit (rest % 2) (omega arith) in (
        λ h. before.0 (let now = here.1 h in omega (arith, now, lows, highs, one)),
        λ p. here.0 (let old = before.1 p in omega (arith, old, lows, highs, one)),
      )

  -- no bit is left, and `last` tells where the higher number is above
  pub compared_all : (last : Bool) → last ≡ (word_bit above b && not (word_bit carry b)) → length low ≤ i → rest ≡ 0 → IsTrue last ↔ P
  compared_all last is past none =
      let lows : number_of (lane_at (drop i low) b) ≡ 0 = ap (λ l. number_of (lane_at l b)) (drop_all i low past) in
      let highs : number_of (lane_at (drop i high) b) ≡ 0 = ap (λ l. number_of (lane_at l b)) (drop_all i high (omega (arith, past, same))) in
      let told = compared_last (word_bit above b) (word_bit carry b) in (
        λ set. before.0 (let h = told.0 (sym is ∙ set) in omega (arith, h, lows, highs, none)),
        λ p. is ∙ told.1 (let h = before.1 p in omega (arith, h, lows, highs, none)),
      )
    where
      compared_last : (above carry : Bool) → IsTrue (above && not carry) ↔ (bit_number carry < bit_number above)
      compared_last false false = (λ set. absurd cc, λ h. absurd (omega (arith, h)))
      compared_last false true = (λ set. absurd cc, λ h. absurd (omega (arith, h)))
      compared_last true false = (λ set. omega arith, λ h. refl)
      compared_last true true = (λ set. absurd cc, λ h. absurd (omega (arith, h)))

  pub compare_end : carry < 2 ^ 64 → b < 64 → length low ≤ i → rest ≡ 0 → IsTrue (word_bit (bit_and above (bit_not w64 carry)) b) ↔ P
  compare_end fits within past none =
      compared_all (word_bit (bit_and above (bit_not w64 carry)) b) (and_bit above (bit_not w64 carry) b ∙ ap (λ t. word_bit above b && t) (not_bit carry b fits within)) past none

pub either : (s t : Bool) → (s || t) ≡ true → (s ≡ true) ⊎ (t ≡ true)
either true t h = inl refl
either false t h = inr h

pub or_true : (s : Bool) → (s || true) ≡ true
or_true true = refl
or_true false = refl

-- one number is further above the other than the level, or the other way round
pub compared_both : (n m level first second b : ℕ) → (IsTrue (word_bit first b) ↔ (n + level < m)) → (IsTrue (word_bit second b) ↔ (m + level < n))
    → IsTrue (word_bit (bit_or first second) b) ↔ (level < distance n m)
compared_both n m level first second b one other =
    let is = or_bit first second b in (
      λ set. elim (either (word_bit first b) (word_bit second b) (sym is ∙ set)) [
        | inl h ↦ (let far = one.0 h in omega (arith, far))
        | inr h ↦ (let far = other.0 h in omega (arith, far))
      ],
      λ far. is ∙ elim (cases_lt n m) [
        | inl less ↦ ap (λ t. t || word_bit second b) (one.1 (omega (arith, far, less)))
        | inr more ↦ ap (λ t. word_bit first b || t) (other.1 (omega (arith, far, more))) ∙ or_true (word_bit first b)
      ],
    )
