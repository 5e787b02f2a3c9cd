-- The values at the vectors that begin with a front.
use Rattle.std.proofs.Common.{◌≡◌, ℕ, ◌+◌, ◌-◌, ◌*◌, ◌<◌, ◌≤◌, Bool, true, false, List, [], ◌∷◌, length, get_or, set, take, drop, map, refl, ap, sym, subst, ◌∙◌, inl, inr, arith, lit<}
use Rattle.std.specs.Int.{from_bool}
use Rattle.std.proofs.Math.Nat.{pow-le-pow_right}
use Rattle.std.proofs.lemmas.Bool.{cases_lt, cases_eq}
use Rattle.std.proofs.lemmas.List.{get_or-set_same, get_or-set_other, get_or_default, get_or-map, get_or-take, get_or-drop, length-drop, length-take-le, take-take, take_all, drop_more}
use Rattle.std.proofs.lemmas.Option.{get_or_from_slice_get}
use Rattle.semantics.specs.Net.{NetValue, input_count, signal_count}
use Rattle.semantics.specs.Error.{bit_number, number_of}
use Rattle.semantics.specs.Value.{value_of}
use Rattle.semantics.specs.Vectors.{all_vectors}
use Rattle.semantics.proofs.Vectors.{number_of-lt, slice_get-number_of}
use Rattle.lane_bits.specs.Rows.{row_bit}
use Rattle.lane_bits.specs.Patterns.{pattern_bit}
use Rattle.lane_nets.specs.Words.{word_bit, values_at, HasInputs, HasValues}
use Rattle.lane_nets.proofs.RowBits.{row_bit-word}
use Rattle.case_tree.specs.Behind.{AreValuesBehind}

-- ---- the words of the inputs

-- one more input of the front
pub front_more : (front : List Bool) (words : List ℕ) (i word : ℕ) (d : Bool) → i < length front → length front ≤ length words → ((b : ℕ) → b < 64 → word_bit word b ≡ get_or front i d)
    → ((b s : ℕ) → b < 64 → s < i → values_at words b s ≡ get_or front s false) → (b s : ℕ) → b < 64 → s < i + 1 → values_at (set words i word) b s ≡ get_or front s false
front_more front words i word d within room bits before b s low next =
    elim (cases_eq s i) [
      | inl same ↦ rw (same, get_or-set_same words i word 0 (omega (arith, within, room))) (bits b low ∙ get_or_default front i d false within)
      | inr other ↦ rw (get_or-set_other words i s word 0 other) (before b s low (omega (arith, next, other)))
    ]

-- one more input behind it
pub rest_more : (vectors : List (List Bool)) (words row : List ℕ) (from i : ℕ) → from + i < length words → ((p : ℕ) → row_bit row p ≡ pattern_bit vectors i p)
    → ((b s : ℕ) → b < 64 → s < i → values_at words b (from + s) ≡ pattern_bit vectors s b)
    → (b s : ℕ) → b < 64 → s < i + 1 → values_at (set words (from + i) (get_or row 0 0)) b (from + s) ≡ pattern_bit vectors s b
rest_more vectors words row from i room bits before b s low next =
    elim (cases_eq s i) [
      | inl same ↦
          let place : 64 * 0 + b ≡ b = omega arith in
          let bit : word_bit (get_or row 0 0) b ≡ pattern_bit vectors i b = sym (row_bit-word row 0 b low) ∙ ap (row_bit row) place ∙ bits b in
          rw (same, get_or-set_same words (from + i) (get_or row 0 0) 0 room) bit
      | inr other ↦ rw (get_or-set_other words (from + i) (from + s) (get_or row 0 0) 0 (λ e. other (omega (arith, e)))) (before b s low (omega (arith, next, other)))
    ]

pub front_kept : (words old : List ℕ) (from i word : ℕ) → ((s : ℕ) → s < from → get_or words s 0 ≡ get_or old s 0) → (s : ℕ) → s < from → get_or (set words (from + i) word) s 0 ≡ get_or old s 0
front_kept words old from i word before s low = get_or-set_other words (from + i) s word 0 (λ e. omega (arith, e, low)) ∙ before s low

-- the bits of a vector among all vectors of its length
all-bit : (n : ℕ) (x : List Bool) (s : ℕ) → length x ≡ n → pattern_bit (all_vectors n) s (number_of x) ≡ get_or x s false
all-bit n x s width = ap (λ y. get_or y s false) (get_or_from_slice_get (all_vectors n) (number_of x) x [] (slice_get-number_of n x width))

pub number_of-few : (x : List Bool) → length x ≤ 6 → number_of x < 64
number_of-few x few = omega (arith, number_of-lt x, pow-le-pow_right {n = 2} (lit< tt) few)

pub inputs_behind : (N : NetValue) (front : List Bool) (vectors : List (List Bool)) (words first : List ℕ) (rest : ℕ) → length front + rest ≡ input_count N → rest ≤ 6 → vectors ≡ all_vectors rest
    → ((b s : ℕ) → b < 64 → s < length front → values_at first b s ≡ get_or front s false)
    → ((s : ℕ) → s < length front → get_or words s 0 ≡ get_or first s 0)
    → ((b s : ℕ) → b < 64 → s < rest → values_at words b (length front + s) ≡ pattern_bit vectors s b)
    → (x : List Bool) → length x ≡ input_count N → take (length front) x ≡ front
    → (number_of (drop (length front) x) < 64) × HasInputs N words (number_of (drop (length front) x)) x
inputs_behind N front vectors words first rest width few all fronts kept rests x long begins =
    let later : List Bool = drop (length front) x in
    let count : length later ≡ rest = omega (arith, length-drop (length front) x, width, long) in
    let low : number_of later < 64 = number_of-few later (omega (arith, count, few)) in (
      low,
      λ s within.
          elim (cases_lt s (length front)) [
            | inl here ↦ ap (λ w. word_bit w (number_of later)) (kept s here) ∙ fronts (number_of later) s low here ∙ ap (λ l. get_or l s false) (sym begins) ∙ get_or-take (length front) x s false
                here
            | inr behind ↦
                let j : ℕ = s - length front in
                let place : length front + j ≡ s = omega (arith, behind) in
                subst (λ k. values_at words (number_of later) k ≡ get_or x k false) place
                (rests (number_of later) j low (omega (arith, within, width, behind)) ∙ ap (λ v. pattern_bit v j (number_of later)) all ∙ all-bit rest later j count
                ∙ get_or-drop (length front) x j false)
          ],
    )

-- ---- one lane

-- one more bit of a number, the highest first
pub number_more : (bits : List Bool) (i number : ℕ) → i < length bits → number ≡ number_of (drop (length bits - i) bits)
    → number * 2 + from_bool (get_or bits (length bits - 1 - i) false) ≡ number_of (drop (length bits - (i + 1)) bits)
number_more bits i number low is =
    let k : ℕ = length bits - (i + 1) in
    let next : drop k bits ≡ get_or bits k false ∷ drop (k + 1) bits = drop_more bits k false (omega (arith, low)) in
    let same : length bits - 1 - i ≡ k = omega arith in
    let rest : k + 1 ≡ length bits - i = omega (arith, low) in
    let whole : number_of (drop k bits) ≡ bit_number (get_or bits k false) + 2 * number_of (drop (length bits - i) bits) =
    ap number_of next ∙ ap (λ n. bit_number (get_or bits k false) + 2 * number_of (drop n bits)) rest in
    omega (arith, whole, is, ap (λ n. from_bool (get_or bits n false)) same, as_number (get_or bits k false))
  where
    as_number : (x : Bool) → from_bool x ≡ bit_number x
    as_number true = refl
    as_number false = refl

pub number_low : (bits : List Bool) (i number : ℕ) → length bits ≤ 6 → number ≡ number_of (drop (length bits - i) bits) → number < 64
number_low bits i number few is =
    omega (arith, is, number_of-few (drop (length bits - i) bits) (omega (arith, length-drop (length bits - i) bits, few)))

-- the values of a lane, read from the words
pub values_told : (N : NetValue) (words : List ℕ) (b : ℕ) (x bits : List Bool) → bits ≡ map (λ word. word_bit word b) words → length words ≡ signal_count N → HasValues N words b x
    → (s : ℕ) → s < signal_count N → get_or bits s false ≡ value_of (input_count N) N.tables x s
values_told N words b x bits are wide values s within =
    ap (λ l. get_or l s false) are ∙ get_or-map (λ word. word_bit word b) words s 0 false (omega (arith, within, wide)) ∙ values s within

-- ---- the front stays, and so do the values

pub values_kept : (N : NetValue) (x y : List Bool) (rest depth : ℕ) (words : List ℕ) → length y ≡ length x → take depth y ≡ take depth x → length y - rest ≤ depth
    → (length x - rest ≤ depth → AreValuesBehind N (take (length x - rest) x) words) → AreValuesBehind N (take (length y - rest) y) words
values_kept N x y rest depth words long begins deep values =
    let count : length y - rest ≡ length x - rest = ap (λ n. n - rest) long in
    let within : length x - rest ≤ depth = omega (arith, deep, count) in
    let same : take (length x - rest) y ≡ take (length x - rest) x =
    sym (take-take (length x - rest) depth y within) ∙ ap (take (length x - rest)) begins ∙ take-take (length x - rest) depth x within in
    subst (λ f. AreValuesBehind N f words) (sym (ap (λ n. take n y) count ∙ same)) (values within)

-- the bits behind the front, as a part of the slice
pub rest_slice : (x : List Bool) (k rest : ℕ) → k ≡ rest → number_of (take (length x - (length x - k)) (drop (length x - k) x)) ≡ number_of (drop (length x - rest) x)
rest_slice x k rest e =
    ap number_of (take_all (length x - (length x - k)) (drop (length x - k) x) (omega (arith, length-drop (length x - k) x)))
    ∙ ap (λ n. number_of (drop (length x - n) x)) e

-- the values of a vector among those behind its front
pub values_here : (N : NetValue) (x : List Bool) (rest : ℕ) (words : List ℕ) → length x ≡ input_count N → AreValuesBehind N (take (length x - rest) x) words
    → HasValues N words (number_of (drop (length x - rest) x)) x
values_here N x rest words width values =
    let count : length (take (length x - rest) x) ≡ length x - rest = length-take-le (length x - rest) x (omega arith) in
    subst (λ n. HasValues N words (number_of (drop n x)) x) count (values x width (ap (λ n. take n x) count))
