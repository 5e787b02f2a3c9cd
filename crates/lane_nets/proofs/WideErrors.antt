-- Errors in wide words, lane by lane.
use Rattle.std.proofs.Common.{◌≡◌, ◌↔◌, ℕ, ◌+◌, ◌*◌, ◌-◌, ◌/◌, ◌%◌, ◌<◌, ◌≤◌, min, Bool, true, false, not, ◌&&◌, ◌||◌, ◌==◌, List, [], ◌∷◌, length, get_or, set, take, drop, IsTrue}
use Rattle.std.proofs.Common.{refl, ap, sym, ◌∙◌, subst, inl, inr, arith, get_or-set_same, get_or-set_other}
use Rattle.std.specs.Prelude.{bit_and, bit_or, bit_xor}
use Rattle.std.proofs.lemmas.Bool.{cases_eq}
use Rattle.std.proofs.lemmas.List.{take-map, drop-map, drop_all}
use Rattle.semantics.specs.declared.metric.Metric.{Metric}
use Rattle.semantics.specs.declared.metric.Kind.{Kind}
use Rattle.semantics.specs.Error.{bit_number, number_of, sign_of, sign_flipped, word_error, word_width, greatest_of, error_of_word}
use Rattle.lane_bits.specs.Rows.{turned}
use Rattle.lane_bits.proofs.Bits.{and_bit, or_bit, xor_bit}
use Rattle.lane_nets.specs.Words.{word_bit}
use Rattle.lane_nets.specs.Lanes.{lane_at, lane_number, lane_so_far, GoesOn}
use Rattle.lane_nets.specs.Wide.{lane_words}
use Rattle.lane_nets.proofs.WordBits.{zero_bit}
use Rattle.lane_nets.proofs.WideWords.{lane_words_get, lane_words-set, lane_words-length}
use Rattle.lane_nets.proofs.Comparing.{compare_more, compared_all}
use Rattle.lane_nets.proofs.LaneErrors.{length-lane, lane-bit, lane-set, joined_more}

-- ---- one operator

pub and_lane : (r v w b : ℕ) (x y : Bool) → r ≡ bit_and v w → word_bit v b ≡ x → word_bit w b ≡ y → word_bit r b ≡ (x && y)
and_lane r v w b x y is left right = ap (λ n. word_bit n b) is ∙ and_bit v w b ∙ (λ i. left i && right i)

pub or_lane : (r v w b : ℕ) (x y : Bool) → r ≡ bit_or v w → word_bit v b ≡ x → word_bit w b ≡ y → word_bit r b ≡ (x || y)
or_lane r v w b x y is left right = ap (λ n. word_bit n b) is ∙ or_bit v w b ∙ (λ i. left i || right i)

pub xor_lane : (r v w b : ℕ) (x y : Bool) → r ≡ bit_xor v w → word_bit v b ≡ x → word_bit w b ≡ y → word_bit r b ≡ turned y x
xor_lane r v w b x y is left right = ap (λ n. word_bit n b) is ∙ xor_bit v w b ∙ (λ i. turned (right i) (left i))

-- ---- the comparison of two numbers

module _ (low high : List (List ℕ)) (i j b rest carry above : ℕ) (P : Type 0) (same : length low ≡ length high)
    (before : (number_of (lane_at (drop i (lane_words low j)) b) + rest + lane_number carry b < number_of (lane_at (drop i (lane_words high j)) b) + lane_number above b) ↔ P) where
  lanes_same : length (lane_words low j) ≡ length (lane_words high j)
  lanes_same = lane_words-length low j ∙ same ∙ sym (lane_words-length high j)

  -- one more bit
  pub wide_more : (wide other : List ℕ) (new_carry new_above : ℕ) → i < length low → wide ≡ get_or low i [] → other ≡ get_or high i []
      → GoesOn (lane_number (get_or wide j 0) b) (lane_number (get_or other j 0) b) (bit_number (rest % 2 == 1)) (lane_so_far carry above b)
      (lane_so_far new_carry new_above b)
      → (number_of (lane_at (drop (i + 1) (lane_words low j)) b) + rest / 2 + lane_number new_carry b < number_of (lane_at (drop (i + 1) (lane_words high j)) b) + lane_number new_above b) ↔ P
  wide_more wide other new_carry new_above within wide_is other_is step =
      let here : get_or (lane_words low j) i 0 ≡ get_or wide j 0 = lane_words_get low j i ∙ ap (λ (w : List ℕ). get_or w j 0) (sym wide_is) in
      let there : get_or (lane_words high j) i 0 ≡ get_or other j 0 = lane_words_get high j i ∙ ap (λ (w : List ℕ). get_or w j 0) (sym other_is) in
      compare_more (lane_words low j) (lane_words high j) i b rest carry above P lanes_same before new_carry new_above (omega (arith, within, lane_words-length low j))
      (rw (here, there) step)

  -- no bit is left
  pub wide_all : (last : Bool) → last ≡ (word_bit above b && not (word_bit carry b)) → length low ≤ i → rest ≡ 0 → IsTrue last ↔ P
  wide_all last is past none = compared_all (lane_words low j) (lane_words high j) i b rest carry above P lanes_same before last is (omega (arith, past, lane_words-length low j)) none

  -- no bit is left, and some of the level is
  pub wide_none_above : (word : ℕ) → word ≡ 0 → length low ≤ i → 0 < rest → IsTrue (word_bit word b) ↔ P
  wide_none_above word is past some =
      let lows : number_of (lane_at (drop i (lane_words low j)) b) ≡ 0 = ap (λ (l : List ℕ). number_of (lane_at l b)) (drop_all i (lane_words low j) (omega (arith, past, lane_words-length low j))) in
      let highs : number_of (lane_at (drop i (lane_words high j)) b) ≡ 0 =
      ap (λ (l : List ℕ). number_of (lane_at l b)) (drop_all i (lane_words high j) (omega (arith, past, same, lane_words-length high j))) in
      let clear : word_bit word b ≡ false = ap (λ n. word_bit n b) is ∙ zero_bit b in (
        λ set. absurd (let none = clear in cc),
        λ p. absurd (let h = before.1 p in omega (arith, h, lows, highs, some, bit_most (word_bit above b))),
      )
    where
      bit_most : (x : Bool) → bit_number x ≤ 1
      bit_most true = omega arith
      bit_most false = omega arith

-- nothing is carried, and nothing is above
pub wide_start : (n m level carry above b : ℕ) → carry ≡ 0 → above ≡ 0 → (n + level + lane_number carry b < m + lane_number above b) ↔ (n + level < m)
wide_start n m level carry above b carry_is above_is =
    let first : lane_number carry b ≡ 0 = ap (λ k. lane_number k b) carry_is ∙ ap bit_number (zero_bit b) in
    let second : lane_number above b ≡ 0 = ap (λ k. lane_number k b) above_is ∙ ap bit_number (zero_bit b) in
    (λ h. omega (arith, h, first, second), λ h. omega (arith, h, first, second))

-- ---- signs

pub wide-turned : (wides : List (List ℕ)) (j b top : ℕ) (over : List ℕ) → 0 < length wides → top ≡ length wides - 1
    → word_bit (get_or over j 0) b ≡ not (word_bit (get_or (get_or wides top []) j 0) b) → lane_at (lane_words (set wides top over) j) b ≡ sign_flipped (lane_at (lane_words wides j) b)
wide-turned wides j b top over some is bit =
    let lanes : List ℕ = lane_words wides j in
    let long : length (lane_at lanes b) ≡ length wides = length-lane lanes b ∙ lane_words-length wides j in
    let at : length (lane_at lanes b) - 1 ≡ top = omega (arith, long, is) in
    let sign : sign_of (lane_at lanes b) ≡ word_bit (get_or (get_or wides top []) j 0) b =
    ap (λ n. get_or (lane_at lanes b) n false) at ∙ lane-bit lanes b top (omega (arith, some, is, lane_words-length wides j)) ∙ ap (λ w. word_bit w b) (lane_words_get wides j top) in
    ap (λ (l : List ℕ). lane_at l b) (lane_words-set wides top over j)
    ∙ lane-set lanes top (get_or over j 0) b
    ∙ (λ i. set (lane_at lanes b) (sym at i) ((bit ∙ ap not (sym sign)) i))

-- without outputs nothing is turned over
pub wide-turned_none : (wides : List (List ℕ)) (j b : ℕ) → length wides ≡ 0 → lane_at (lane_words wides j) b ≡ sign_flipped (lane_at (lane_words wides j) b)
wide-turned_none [] j b none = refl
wide-turned_none (wide ∷ wides) j b none = absurd (omega (arith, none))

-- ---- one of the eight words after another

pub over_lanes : (kind : Kind) (level word b : ℕ) (exact approx right outputs : List ℕ) → right ≡ exact → outputs ≡ approx
    → (IsTrue (word_bit word b) ↔ (level < word_error kind (lane_at right b) (lane_at outputs b)))
    → IsTrue (word_bit word b) ↔ (level < word_error kind (lane_at exact b) (lane_at approx b))
over_lanes kind level word b exact approx right outputs left_is right_is h =
    subst (λ (l : List ℕ). IsTrue (word_bit word b) ↔ (level < word_error kind (lane_at exact b) (lane_at l b))) right_is
    (subst (λ (l : List ℕ). IsTrue (word_bit word b) ↔ (level < word_error kind (lane_at l b) (lane_at outputs b))) left_is h)

pub lanes_more : (P : ℕ → ℕ → Type 0) (words : List ℕ) (n word : ℕ) → n < length words → ((b : ℕ) → b < 64 → IsTrue (word_bit word b) ↔ P n b)
    → ((j b : ℕ) → j < n → b < 64 → IsTrue (word_bit (get_or words j 0) b) ↔ P j b)
    → (j b : ℕ) → j < n + 1 → b < 64 → IsTrue (word_bit (get_or (set words n word) j 0) b) ↔ P j b
lanes_more P words n word room here before j b low within =
    elim (cases_eq j n) [
      | inl e ↦ rw (e, get_or-set_same words n word 0 room) (here b within)
      | inr other ↦ rw (get_or-set_other words n j word 0 other) (before j b (omega (arith, low, other)) within)
    ]

-- ---- outputs that are cut into words

lanes_cut : (wides : List (List ℕ)) (j first count : ℕ) → lane_words (take count (drop first wides)) j ≡ take count (drop first (lane_words wides j))
lanes_cut wides j first count =
    sym (take-map (λ (w : List ℕ). get_or w j 0) count (drop first wides)) ∙ ap (take count) (sym (drop-map (λ (w : List ℕ). get_or w j 0) first wides))

-- Word k joins the words before it.
pub wide_joined : (metric : Metric) (level over here joined j b k first size : ℕ) (exact approx : List (List ℕ)) → length exact ≡ length approx
    → first ≡ k * word_width metric (length exact) → size ≡ min (word_width metric (length exact)) (length exact - k * word_width metric (length exact))
    → joined ≡ bit_or over here
    → (IsTrue (word_bit here b)
    ↔ (level < word_error metric.kind (lane_at (lane_words (take (first + size - first) (drop first exact)) j) b) (lane_at (lane_words (take (first + size - first) (drop first approx)) j) b)))
    → (IsTrue (word_bit over b) ↔ (level < greatest_of (error_of_word metric (lane_at (lane_words exact j) b) (lane_at (lane_words approx j) b)) k))
    → IsTrue (word_bit joined b) ↔ (level < greatest_of (error_of_word metric (lane_at (lane_words exact j) b) (lane_at (lane_words approx j) b)) (k + 1))
wide_joined metric level over here joined j b k first size exact approx same begin count is one before =
    let long : length exact ≡ length (lane_words exact j) = sym (lane_words-length exact j) in
    rw is
    (joined_more metric level over here b k first size (lane_words exact j) (lane_words approx j) (lane_words-length exact j ∙ same ∙ sym (lane_words-length approx j))
    (begin ∙ ap (λ n. k * word_width metric n) long)
    (count ∙ ap (λ n. min (word_width metric n) (n - k * word_width metric n)) long)
    (over_lanes metric.kind level here b _ _ _ _ (lanes_cut exact j first (first + size - first)) (lanes_cut approx j first (first + size - first)) one)
    before)
