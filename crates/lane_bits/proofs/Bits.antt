-- Bits of rows whose words are computed from other rows, word by word.
use Rattle.std.proofs.Common.{◌≡◌, ◌≢◌, ℕ, zero, suc, ◌+◌, ◌*◌, ◌/◌, ◌%◌, ◌-◌, ◌^◌, ◌<◌, ◌≤◌, min, max, Bool, true, false, ◌&&◌, ◌||◌, ◌==◌, List, [], ◌∷◌, ◌++◌, length, get_or, set, take, w64}
use Rattle.std.proofs.Common.{if◌then◌else◌, refl, ap, sym, ◌∙◌, inl, inr, arith}
use Rattle.std.specs.Prelude.{bit_and, bit_or, bit_xor}
use Rattle.std.specs.Int.{bit_at}
use Rattle.std.proofs.lemmas.Bool.{cases_eq, cases_lt, eq-eqb, ne_eqb}
use Rattle.std.proofs.lemmas.List.{get_or_past, length_push, get_or-set_same, get_or-set_other, get_or-take, length-take}
use Rattle.std.proofs.lemmas.Nat.Bits.{bit_at_and, bit_at_or, bit_at_xor, bit_at-zero, bit_at_ones, bit_at-lt, bit_at_set_same, bit_at_set_other, shr_and_one}
use Rattle.std.proofs.lemmas.Grind.{get_or_default_zero}
use Rattle.lane_bits.specs.Rows.{row_bit, turned}
use Rattle.lane_bits.specs.Store.{IsGrownFrom}

-- ---- operations on numbers that are bits

and_test : (x y : ℕ) → x < 2 → y < 2 → (min x y == 1) ≡ ((x == 1) && (y == 1))
and_test zero zero a b = refl
and_test zero (suc zero) a b = refl
and_test (suc zero) zero a b = refl
and_test (suc zero) (suc zero) a b = refl
and_test (suc (suc x)) y a b = absurd (omega arith)
and_test x (suc (suc y)) a b = absurd (omega arith)

or_test : (x y : ℕ) → x < 2 → y < 2 → (max x y == 1) ≡ ((x == 1) || (y == 1))
or_test zero zero a b = refl
or_test zero (suc zero) a b = refl
or_test (suc zero) zero a b = refl
or_test (suc zero) (suc zero) a b = refl
or_test (suc (suc x)) y a b = absurd (omega arith)
or_test x (suc (suc y)) a b = absurd (omega arith)

xor_test : (x y : ℕ) → x < 2 → y < 2 → ((x + y) % 2 == 1) ≡ turned (y == 1) (x == 1)
xor_test zero zero a b = refl
xor_test zero (suc zero) a b = refl
xor_test (suc zero) zero a b = refl
xor_test (suc zero) (suc zero) a b = refl
xor_test (suc (suc x)) y a b = absurd (omega arith)
xor_test x (suc (suc y)) a b = absurd (omega arith)

-- ---- words

abbrev pub word_bit : ℕ → ℕ → Bool
word_bit word i = bit_at word i == 1

pub and_bit : (a b i : ℕ) → word_bit (bit_and a b) i ≡ (word_bit a i && word_bit b i)
and_bit a b i = ap (λ n. n == 1) (bit_at_and a b i) ∙ and_test (bit_at a i) (bit_at b i) (bit_at-lt a i) (bit_at-lt b i)

pub or_bit : (a b i : ℕ) → word_bit (bit_or a b) i ≡ (word_bit a i || word_bit b i)
or_bit a b i = ap (λ n. n == 1) (bit_at_or a b i) ∙ or_test (bit_at a i) (bit_at b i) (bit_at-lt a i) (bit_at-lt b i)

pub xor_bit : (a b i : ℕ) → word_bit (bit_xor a b) i ≡ turned (word_bit b i) (word_bit a i)
xor_bit a b i = ap (λ n. n == 1) (bit_at_xor a b i) ∙ xor_test (bit_at a i) (bit_at b i) (bit_at-lt a i) (bit_at-lt b i)

abbrev pub flips : Bool → ℕ
flips flip = if flip then 2 ^ 64 - 1 else 0

flips_bit : (flip : Bool) (i : ℕ) → i < 64 → word_bit (flips flip) i ≡ flip
flips_bit true i low = ap (λ n. n == 1) (bit_at_ones 64 i low)
flips_bit false i low = ap (λ n. n == 1) (bit_at-zero i)

-- ---- rows

pub and_rows-bits : (a b dst : List ℕ) (flip_a flip_b : Bool)
    → ((k : ℕ) → k < length dst → get_or dst k 0 ≡ bit_and (bit_xor (get_or a k 0) (flips flip_a)) (bit_xor (get_or b k 0) (flips flip_b)))
    → (p : ℕ) → p < 64 * length dst → row_bit dst p ≡ (turned flip_a (row_bit a p) && turned flip_b (row_bit b p))
unfolding row_bit
and_rows-bits a b dst flip_a flip_b words p low =
    let i : ℕ = p % 64 in
    let x : ℕ = get_or a (p / 64) 0 in
    let y : ℕ = get_or b (p / 64) 0 in
    ap (λ w. word_bit w i) (words (p / 64) (omega arith))
    ∙ and_bit (bit_xor x (flips flip_a)) (bit_xor y (flips flip_b)) i
    ∙ (λ j. (xor_bit x (flips flip_a) i ∙ ap (λ f. turned f (word_bit x i)) (flips_bit flip_a i (omega arith))) j
    && (xor_bit y (flips flip_b) i ∙ ap (λ f. turned f (word_bit y i)) (flips_bit flip_b i (omega arith))) j)

pub keep_rows-bits : (a old new : List ℕ) (flip : Bool) → ((k : ℕ) → k < length old → get_or new k 0 ≡ bit_and (get_or old k 0) (bit_xor (get_or a k 0) (flips flip)))
    → (p : ℕ) → p < 64 * length old → row_bit new p ≡ (row_bit old p && turned flip (row_bit a p))
unfolding row_bit
keep_rows-bits a old new flip words p low =
    let i : ℕ = p % 64 in
    let x : ℕ = get_or old (p / 64) 0 in
    let y : ℕ = get_or a (p / 64) 0 in
    ap (λ w. word_bit w i) (words (p / 64) (omega arith))
    ∙ and_bit x (bit_xor y (flips flip)) i
    ∙ ap (λ b. word_bit x i && b) (xor_bit y (flips flip) i ∙ ap (λ f. turned f (word_bit y i)) (flips_bit flip i (omega arith)))

-- what holds word by word of the words of two rows holds past their ends too
pub all_words : (f : ℕ → ℕ → ℕ) → f 0 0 ≡ 0 → (old a new : List ℕ) → length a ≡ length old → length new ≡ length old
    → ((k : ℕ) → k < length old → get_or new k 0 ≡ f (get_or old k 0) (get_or a k 0)) → (k : ℕ) → get_or new k 0 ≡ f (get_or old k 0) (get_or a k 0)
all_words f none old a new same_a same words k =
    elim (cases_lt k (length old)) [
      | inl low ↦ words k low
      | inr past ↦
          get_or_past new k 0 (omega arith) ∙ sym none
          ∙ (let past_a : get_or a k 0 ≡ 0 = get_or_past a k 0 (omega arith) in ap (λ x. f x 0) (sym (get_or_past old k 0 past)) ∙ ap (f (get_or old k 0)) (sym past_a))
    ]

pub or_rows-bits : (old a new : List ℕ) → ((k : ℕ) → get_or new k 0 ≡ bit_or (get_or old k 0) (get_or a k 0))
    → (p : ℕ) → row_bit new p ≡ (row_bit old p || row_bit a p)
unfolding row_bit
or_rows-bits old a new words p = ap (λ w. word_bit w (p % 64)) (words (p / 64)) ∙ or_bit (get_or old (p / 64) 0) (get_or a (p / 64) 0) (p % 64)

pub xor_rows-bits : (old a new : List ℕ) → ((k : ℕ) → get_or new k 0 ≡ bit_xor (get_or old k 0) (get_or a k 0))
    → (p : ℕ) → row_bit new p ≡ turned (row_bit a p) (row_bit old p)
unfolding row_bit
xor_rows-bits old a new words p = ap (λ w. word_bit w (p % 64)) (words (p / 64)) ∙ xor_bit (get_or old (p / 64) 0) (get_or a (p / 64) 0) (p % 64)

-- ---- the first bit that is 1

-- no bit of a word without ones is 1
pub none_in_word : (row : List ℕ) (k : ℕ) → ((q : ℕ) → q < 64 * k → row_bit row q ≡ false) → get_or row k 0 ≡ 0
    → (q : ℕ) → q < 64 * (k + 1) → row_bit row q ≡ false
unfolding row_bit
none_in_word row k before none q low =
    elim (cases_lt q (64 * k)) [
      | inl less ↦ before q less
      | inr more ↦
          let at : q / 64 ≡ k = omega arith in
          ap (λ n. n == 1) (ap (λ w. bit_at w (q % 64)) (ap (λ j. get_or row j 0) at ∙ none) ∙ bit_at-zero (q % 64))
    ]

-- the lowest 1 of a word behind words without ones
pub first_in_word : (row : List ℕ) (k t : ℕ) → ((q : ℕ) → q < 64 * k → row_bit row q ≡ false) → t < 64 → bit_at (get_or row k 0) t ≡ 1
    → ((i : ℕ) → i < t → bit_at (get_or row k 0) i ≡ 0) → (row_bit row (64 * k + t) ≡ true) × ((q : ℕ) → q < 64 * k + t → row_bit row q ≡ false)
unfolding row_bit
first_in_word row k t before within set clear =
    let at : (64 * k + t) / 64 ≡ k = omega arith in
    let bit : (64 * k + t) % 64 ≡ t = omega arith in (
      ap (λ n. n == 1) ((λ j. bit_at (get_or row (at j) 0) (bit j)) ∙ set),
      λ q low. elim (cases_lt q (64 * k)) [
        | inl less ↦ before q less
        | inr more ↦
            let here : q / 64 ≡ k = omega arith in
            ap (λ n. n == 1) (ap (λ j. bit_at (get_or row j 0) (q % 64)) here ∙ clear (q % 64) (omega arith))
      ],
    )

-- ---- one row that changes

get_or-push_zero : (row : List ℕ) (k : ℕ) → get_or (row ++ 0 ∷ []) k 0 ≡ get_or row k 0
get_or-push_zero [] zero = refl
get_or-push_zero [] (suc k) = refl
get_or-push_zero (w ∷ row) zero = refl
get_or-push_zero (w ∷ row) (suc k) = get_or-push_zero row k

pub row_bit-push_zero : (row : List ℕ) (p : ℕ) → row_bit (row ++ 0 ∷ []) p ≡ row_bit row p
unfolding row_bit
row_bit-push_zero row p = ap (λ w. word_bit w (p % 64)) (get_or-push_zero row (p / 64))

pub row_bit-nil : (p : ℕ) → row_bit [] p ≡ false
unfolding row_bit
row_bit-nil p = ap (λ n. n == 1) (bit_at-zero (p % 64))

-- a word with one more bit
set_bit_same : (n k : ℕ) → k < 64 → word_bit (bit_or n (1 * 2 ^ k % 2 ^ 64)) k ≡ true
set_bit_same n k low = ap (λ d. d == 1) (bit_at_set_same w64 n k low)

set_bit_other : (n k i : ℕ) → k < 64 → i ≢ k → word_bit (bit_or n (1 * 2 ^ k % 2 ^ 64)) i ≡ word_bit n i
set_bit_other n k i low apart = ap (λ d. d == 1) (bit_at_set_other w64 n k low i apart)

pub row_bit-set : (row : List ℕ) (p : ℕ) → p / 64 < length row
    → (q : ℕ) → row_bit (set row (p / 64) (bit_or (get_or row (p / 64) 0) (1 * 2 ^ (p % 64) % 2 ^ 64))) q ≡ ((q == p) || row_bit row q)
unfolding row_bit
row_bit-set row p within q =
    let word : ℕ = bit_or (get_or row (p / 64) 0) (1 * 2 ^ (p % 64) % 2 ^ 64) in
    elim (cases_eq (q / 64) (p / 64)) [
      | inl same ↦
          let here : get_or (set row (p / 64) word) (q / 64) 0 ≡ word = ap (λ k. get_or (set row (p / 64) word) k 0) same ∙ get_or-set_same row (p / 64) word 0 within in
          ap (λ w. word_bit w (q % 64)) here
          ∙ elim (cases_eq (q % 64) (p % 64)) [
            | inl bit ↦
                let equal : q ≡ p = omega arith in
                ap (λ i. word_bit word i) bit ∙ set_bit_same (get_or row (p / 64) 0) (p % 64) (omega arith) ∙ ap (λ t. t || row_bit row q) (sym (eq-eqb q p equal))
            | inr apart ↦
                let other : q ≢ p = (λ e. apart (ap (λ n. n % 64) e)) in
                set_bit_other (get_or row (p / 64) 0) (p % 64) (q % 64) (omega arith) apart
                ∙ ap (λ k. word_bit (get_or row k 0) (q % 64)) (sym same) ∙ ap (λ t. t || row_bit row q) (sym (ne_eqb q p other))
          ]
      | inr apart ↦
          let other : q ≢ p = (λ e. apart (ap (λ n. n / 64) e)) in
          ap (λ w. word_bit w (q % 64)) (get_or-set_other row (p / 64) (q / 64) word 0 apart)
          ∙ ap (λ t. t || row_bit row q) (sym (ne_eqb q p other))
    ]

pub row_bit-is : (row : List ℕ) (p : ℕ) → (bit_and (get_or row (p / 64) 0 / 2 ^ (p % 64)) 1 == 1) ≡ row_bit row p
unfolding row_bit
row_bit-is row p = ap (λ n. n == 1) (shr_and_one (get_or row (p / 64) 0) (p % 64))

pub row_bit_past : (row : List ℕ) (p : ℕ) → length row ≤ p / 64 → row_bit row p ≡ false
unfolding row_bit
row_bit_past row p past = ap (λ n. n == 1) (ap (λ w. bit_at w (p % 64)) (get_or_past row (p / 64) 0 past) ∙ bit_at-zero (p % 64))

pub row_bit-take : (row : List ℕ) (n : ℕ) → ((p : ℕ) → 64 * n ≤ p → row_bit row p ≡ false) → (p : ℕ) → row_bit (take n row) p ≡ row_bit row p
unfolding row_bit
row_bit-take row n clear p =
    elim (cases_lt (p / 64) n) [
      | inl low ↦ ap (λ w. word_bit w (p % 64)) (get_or-take n row (p / 64) 0 low)
      | inr high ↦ row_bit_past (take n row) p (omega (arith, length-take n row)) ∙ sym (clear p (omega arith))
    ]

-- ---- words that are known by other terms

read_word : (words : List ℕ) (k w : ℕ) → k < length words → w ≡ get_or words k w → w ≡ get_or words k 0
read_word words k w within is = is ∙ get_or_default_zero words k w within

pub bit-read : (words row : List ℕ) (p w : ℕ) → words ≡ row → p / 64 < length row → w ≡ get_or words (p / 64) w
    → (bit_and (w / 2 ^ (p % 64)) 1 == 1) ≡ row_bit row p
bit-read words row p w same within is =
    ap (λ v. bit_and (v / 2 ^ (p % 64)) 1 == 1) (read_word words (p / 64) w (omega (arith, ap length same)) is)
    ∙ row_bit-is words p ∙ ap (λ r. row_bit r p) same

pub bit-written : (words row : List ℕ) (p w : ℕ) → words ≡ row → p / 64 < length row → w ≡ get_or words (p / 64) w
    → (q : ℕ) → row_bit (set words (p / 64) (bit_or w (1 * 2 ^ (p % 64) % 2 ^ 64))) q ≡ ((q == p) || row_bit row q)
bit-written words row p w same within is q =
    let inside : p / 64 < length words = omega (arith, ap length same) in
    ap (λ v. row_bit (set words (p / 64) (bit_or v (1 * 2 ^ (p % 64) % 2 ^ 64))) q) (read_word words (p / 64) w inside is)
    ∙ row_bit-set words p inside q ∙ ap (λ r. (q == p) || row_bit r q) same

pub grown-push : (words row new : List ℕ) → words ≡ row → new ≡ words ++ 0 ∷ [] → IsGrownFrom row new
grown-push words row new same is = record {
  longer = omega (arith, ap length same, ap length is, length_push words 0);
  bits = λ p. ap (λ r. row_bit r p) is ∙ row_bit-push_zero words p ∙ ap (λ r. row_bit r p) same;
}
