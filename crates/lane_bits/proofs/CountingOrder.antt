-- The counting order, row by row.
use Rattle.std.proofs.Common.{◌≡◌, ℕ, zero, suc, ◌+◌, ◌*◌, ◌/◌, ◌%◌, ◌-◌, ◌^◌, ◌<◌, ◌≤◌, ◌==◌, ◌&&◌, Bool, true, false, List, [], ◌∷◌, ◌++◌, length, map, get_or}
use Rattle.std.proofs.Common.{refl, ap, sym, subst, ◌∙◌, inl, inr, arith}
use Rattle.std.specs.Int.{bit_at}
use Rattle.std.specs.List.{range_with_len}
use Rattle.std.proofs.lemmas.Bool.{and_parts, eqb-true, cases_eq, cases_lt}
use Rattle.std.proofs.lemmas.List.{ext_get_or, length_push, get_or_push, get_or_append_left, length-map, get_or-map}
use Rattle.std.proofs.lemmas.List.Elements.{All-from_get_or}
use Rattle.std.proofs.lemmas.List.FromFn.{get_or-map-range_with_len, get_or-range_with_len, length-range_with_len}
use Rattle.std.proofs.lemmas.Nat.Bits.{bit_at_lowest, bit_at-suc, bit_at_cat_low, bit_at_cat_high}
use Rattle.semantics.specs.declared.limits.TheConstants.{MOST_INPUTS}
use Rattle.semantics.specs.Vectors.{bits_of, all_vectors}
use Rattle.semantics.specs.Error.{number_of}
use Rattle.semantics.proofs.Vectors.{length-bits_of, length-all_vectors, bits_of-number_of, number_of-lt_width}
use Rattle.lane_bits.specs.Rows.{row_bit, word_count}
use Rattle.lane_bits.specs.Patterns.{PatternSet, vector_at, vectors_in}
use Rattle.lane_bits.specs.CountingOrder.{IsCountingRow, AreCountingRows, ArePlacedRows}
use Rattle.lane_bits.specs.InputOrder.{ArePlacesIn}
use Rattle.lane_bits.specs.Store.{AreRowsOf, IsRowFor}
use Rattle.lane_bits.proofs.Store.{length-vectors_in, vector-at, length-vector_at, bit-at}

-- ---- the words

-- whether f is true below n
abbrev holds_below : (ℕ → Bool) → ℕ → Bool
holds_below f zero = true
holds_below f (suc n) = f n && holds_below f n

holds_at : (f : ℕ → Bool) (n : ℕ) → holds_below f n ≡ true → (b : ℕ) → b < n → f b ≡ true
holds_at f zero h b low = absurd (omega arith)
holds_at f (suc n) h b low =
    let parts = and_parts (f n) (holds_below f n) h in
    elim (cases_eq b n) [
      | inl e ↦ ap f e ∙ parts.0
      | inr other ↦ holds_at f n parts.1 b (omega (arith, low, other))
    ]

abbrev AreBitsOf : ℕ → ℕ → Type 0
AreBitsOf word input = (b : ℕ) → b < 64 → bit_at word b ≡ bit_at b input

checked : (word input : ℕ) → holds_below (λ b. bit_at word b == bit_at b input) 64 ≡ true → AreBitsOf word input
checked word input h b low = eqb-true (bit_at word b) (bit_at b input) (holds_at (λ b. bit_at word b == bit_at b input) 64 h b low)

number_at : (k b : ℕ) → 64 * k + b ≡ k * 2 ^ 6 + b
number_at k b = omega arith

-- the first six inputs
repeated : (word input k b : ℕ) → AreBitsOf word input → input < 6 → b < 64 → (bit_at word b == 1) ≡ (bit_at (64 * k + b) input == 1)
repeated word input k b are small low = ap (λ n. n == 1) (are b low ∙ sym (bit_at_cat_low k 6 b input small) ∙ ap (λ n. bit_at n input) (sym (number_at k b)))

pub first_input : (k b : ℕ) → b < 64 → (bit_at 12297829382473034410 b == 1) ≡ (bit_at (64 * k + b) 0 == 1)
first_input k b low = repeated 12297829382473034410 0 k b (checked 12297829382473034410 0 refl) (omega arith) low

pub second_input : (k b : ℕ) → b < 64 → (bit_at 14757395258967641292 b == 1) ≡ (bit_at (64 * k + b) 1 == 1)
second_input k b low = repeated 14757395258967641292 1 k b (checked 14757395258967641292 1 refl) (omega arith) low

pub third_input : (k b : ℕ) → b < 64 → (bit_at 17361641481138401520 b == 1) ≡ (bit_at (64 * k + b) 2 == 1)
third_input k b low = repeated 17361641481138401520 2 k b (checked 17361641481138401520 2 refl) (omega arith) low

pub fourth_input : (k b : ℕ) → b < 64 → (bit_at 18374966859414961920 b == 1) ≡ (bit_at (64 * k + b) 3 == 1)
fourth_input k b low = repeated 18374966859414961920 3 k b (checked 18374966859414961920 3 refl) (omega arith) low

pub fifth_input : (k b : ℕ) → b < 64 → (bit_at 18446462603027742720 b == 1) ≡ (bit_at (64 * k + b) 4 == 1)
fifth_input k b low = repeated 18446462603027742720 4 k b (checked 18446462603027742720 4 refl) (omega arith) low

pub sixth_input : (k b : ℕ) → b < 64 → (bit_at 18446744069414584320 b == 1) ≡ (bit_at (64 * k + b) 5 == 1)
sixth_input k b low = repeated 18446744069414584320 5 k b (checked 18446744069414584320 5 refl) (omega arith) low

-- the other inputs
pub later_input : (k b input : ℕ) → b < 64 → 6 ≤ input → (bit_at k (input - 6) == 1) ≡ (bit_at (64 * k + b) input == 1)
later_input k b input low late = ap (λ n. n == 1) (sym (bit_at_cat_high k 6 b input low late) ∙ ap (λ n. bit_at n input) (sym (number_at k b)))

-- ---- a row

-- one more word
pub row_from_words : (input : ℕ) (row : List ℕ) → ((k : ℕ) → k < length row → (b : ℕ) → b < 64 → (bit_at (get_or row k 0) b == 1) ≡ (bit_at (64 * k + b) input == 1))
    → (p : ℕ) → p < 64 * length row → row_bit row p ≡ (bit_at p input == 1)
unfolding row_bit
row_from_words input row words p low =
    let here : 64 * (p / 64) + p % 64 ≡ p = omega arith in
    words (p / 64) (omega (arith, low)) (p % 64) (omega arith) ∙ ap (λ n. bit_at n input == 1) here

pub counting_cut : (input count : ℕ) (row cut : List ℕ) → length row ≡ word_count count → length cut ≡ length row → ((p : ℕ) → p < 64 * length row → row_bit row p ≡ (bit_at p input == 1))
    → ((p : ℕ) → p < count → row_bit cut p ≡ row_bit row p) → ((p : ℕ) → count ≤ p → row_bit cut p ≡ false) → IsCountingRow input count cut
counting_cut input count row cut long same bits kept clear = record {
  words = same ∙ long;
  bits = λ p low. kept p low ∙ bits p (omega (arith, low, long));
  clear = clear;
}

-- ---- all rows

pub rows_none : (count : ℕ) → AreCountingRows 0 count []
rows_none count = record { all = refl; each = λ i low. absurd (omega (arith, low)) }

pub rows_all : (i inputs count : ℕ) (rows : List (List ℕ)) → i ≡ inputs → AreCountingRows i count rows → AreCountingRows inputs count rows
rows_all i inputs count rows same are = subst (λ n. AreCountingRows n count rows) same are

pub rows_more : (inputs count : ℕ) (rows : List (List ℕ)) (row : List ℕ) → AreCountingRows inputs count rows → IsCountingRow inputs count row → AreCountingRows (inputs + 1) count (rows ++ row ∷ [])
rows_more inputs count rows row before here =
    let long : length (rows ++ row ∷ []) ≡ length rows + 1 = length_push rows row in
    record {
      all = omega (arith, long, before.all);
      each = λ i low. elim (cases_eq i (length rows)) [
        | inl e ↦
            let last : i ≡ inputs = omega (arith, e, before.all) in
            subst (IsCountingRow i count) (sym (get_or_push rows row [] i (sym e))) (subst (λ n. IsCountingRow n count row) (sym last) here)
        | inr other ↦
            let early : i < length rows = omega (arith, low, long, other) in
            subst (IsCountingRow i count) (sym (get_or_append_left rows (row ∷ []) [] i early)) (before.each i early)
      ];
    }

-- a bit of a vector
bit_of : (n j i : ℕ) → i < n → get_or (bits_of n j) i false ≡ (bit_at j i == 1)
bit_of zero j i low = absurd (omega arith)
bit_of (suc n) j zero low = ap (λ b. b == 1) (sym (bit_at_lowest j))
bit_of (suc n) j (suc i) low = bit_of n (j / 2) i (omega arith) ∙ ap (λ b. b == 1) (sym (bit_at-suc j i))

module _ (inputs count : ℕ) (rows : List (List ℕ)) (few : inputs ≤ MOST_INPUTS) (all : count ≡ 2 ^ inputs) (are : AreCountingRows inputs count rows) where
  pub counting_formed : AreRowsOf inputs count rows
  counting_formed = record {
    few = few;
    each = inl are.all;
    formed = All-from_get_or (IsRowFor count) rows [] (λ i low. record { room = omega (arith, (are.each i low).words); clear = (are.each i low).clear });
  }

  counted : (p : ℕ) → p < count → vector_at rows p ≡ bits_of inputs p
  counted p low =
      ext_get_or false (vector_at rows p) (bits_of inputs p) (length-vector_at rows p ∙ are.all ∙ sym (length-bits_of inputs p))
      (λ i within.
      let inside : i < length rows = omega (arith, within, length-vector_at rows p) in
      bit-at rows i p inside ∙ (are.each i inside).bits p low ∙ sym (bit_of inputs p i (omega (arith, inside, are.all))))

  counted-at : (p : ℕ) → p < 2 ^ inputs → get_or (all_vectors inputs) p [] ≡ bits_of inputs p
  unfolding all_vectors
  counted-at p low = get_or-map-range_with_len (bits_of inputs) 0 (2 ^ inputs) p p [] low (omega arith)

  pub counting_vectors : vectors_in rows count ≡ all_vectors inputs
  counting_vectors =
      ext_get_or [] (vectors_in rows count) (all_vectors inputs) (length-vectors_in rows count ∙ all ∙ sym (length-all_vectors inputs))
      (λ p low.
      let within : p < count = omega (arith, low, length-vectors_in rows count) in
      vector-at rows count p within ∙ counted p within ∙ sym (counted-at p (omega (arith, within, all))))

  pub counting_set : ◌≡◌ {A = PatternSet} (record { inputs = inputs; vectors = vectors_in rows count }) (record { inputs = inputs; vectors = all_vectors inputs })
  counting_set = λ i. record { inputs = inputs; vectors = counting_vectors i }

-- ---- the inputs have other places

pub placed_none : (count : ℕ) (order : List ℕ) → ArePlacedRows 0 count order []
placed_none count order = record { all = refl; each = λ i low. absurd (omega (arith, low)) }

pub placed_all : (i inputs count : ℕ) (order : List ℕ) (rows : List (List ℕ)) → i ≡ inputs → ArePlacedRows i count order rows → ArePlacedRows inputs count order rows
placed_all i inputs count order rows same are = subst (λ n. ArePlacedRows n count order rows) same are

pub placed_more : (inputs count place : ℕ) (order : List ℕ) (rows : List (List ℕ)) (row : List ℕ) → ArePlacedRows inputs count order rows → place < length order → get_or order place 0 ≡ inputs
    → IsCountingRow place count row → ArePlacedRows (inputs + 1) count order (rows ++ row ∷ [])
placed_more inputs count place order rows row before low there here =
    let long : length (rows ++ row ∷ []) ≡ length rows + 1 = length_push rows row in
    record {
      all = omega (arith, long, before.all);
      each = λ i within. elim (cases_lt i (length rows)) [
        | inl early ↦
            let at = before.each i early in
            (at.0, at.1, at.2, subst (IsCountingRow at.0 count) (sym (get_or_append_left rows (row ∷ []) [] i early)) at.3)
        | inr late ↦
            let last : length rows ≡ i = omega (arith, within, long, late) in
            (place, low, there ∙ omega (arith, last, before.all), subst (IsCountingRow place count) (sym (get_or_push rows row [] i last)) here)
      ];
    }

module _ (count : ℕ) (order : List ℕ) (rows : List (List ℕ)) (few : length order ≤ MOST_INPUTS) (all : count ≡ 2 ^ length order) (are : ArePlacedRows (length order) count order rows) where
  pub placed_formed : AreRowsOf (length order) count rows
  placed_formed = record {
    few = few;
    each = inl are.all;
    formed = All-from_get_or (IsRowFor count) rows [] (λ i low.
        let row = (are.each i low).3 in
        record { room = omega (arith, row.words); clear = row.clear });
  }

  -- the bits of a vector by their places are those of its number
  abbrev number_at_places : List Bool → ℕ
  number_at_places x = number_of (map (λ i. get_or x i false) order)

  number_low : (x : List Bool) → number_at_places x < count
  number_low x = omega (arith, all, number_of-lt_width (length order) (map (λ i. get_or x i false) order) (length-map order (λ i. get_or x i false)))

  number_bits : (x : List Bool) (place : ℕ) → place < length order → (bit_at (number_at_places x) place == 1) ≡ get_or x (get_or order place 0) false
  number_bits x place low =
      sym (bit_of (length order) (number_at_places x) place low)
      ∙ ap (λ n. get_or (bits_of n (number_at_places x)) place false) (sym (length-map order (λ i. get_or x i false)))
      ∙ ap (λ y. get_or y place false) (bits_of-number_of (map (λ i. get_or x i false) order))
      ∙ get_or-map (λ i. get_or x i false) order place 0 false low

  placed_vector : (x : List Bool) → length x ≡ length order → vector_at rows (number_at_places x) ≡ x
  placed_vector x width =
      ext_get_or false (vector_at rows (number_at_places x)) x (length-vector_at rows (number_at_places x) ∙ are.all ∙ sym width)
      (λ i within.
      let inside : i < length rows = omega (arith, within, length-vector_at rows (number_at_places x)) in
      let at = are.each i inside in
      bit-at rows i (number_at_places x) inside ∙ at.3.bits (number_at_places x) (number_low x) ∙ number_bits x at.0 at.1 ∙ ap (λ k. get_or x k false) at.2)

  pub every_vector : (x : List Bool) → length x ≡ length order → (p : ℕ) × (p < length (vectors_in rows count)) × (get_or (vectors_in rows count) p [] ≡ x)
  every_vector x width =
      (number_at_places x, omega (arith, number_low x, length-vectors_in rows count), vector-at rows count (number_at_places x) (number_low x) ∙ placed_vector x width)

-- ---- each input at its own place

pub numbers_more : (xs new : List ℕ) (n : ℕ) → xs ≡ range_with_len 0 n → new ≡ xs ++ n ∷ [] → new ≡ range_with_len 0 (n + 1)
numbers_more xs new n before is =
    let long : length xs ≡ n = ap length before ∙ length-range_with_len 0 n in
    let count : length new ≡ n + 1 = ap length is ∙ length_push xs n ∙ omega (arith, long) in
    ext_get_or 0 new (range_with_len 0 (n + 1)) (count ∙ sym (length-range_with_len 0 (n + 1)))
    (λ i low.
    let inside : i < n + 1 = omega (arith, low, count) in
    ap (λ l. get_or l i 0) is
    ∙ elim (cases_lt i n) [
      | inl early ↦
          get_or_append_left xs (n ∷ []) 0 i (omega (arith, early, long)) ∙ ap (λ l. get_or l i 0) before ∙ get_or-range_with_len 0 n i 0 early ∙ sym (get_or-range_with_len 0 (n + 1) i 0 inside)
      | inr late ↦
          let last : length xs ≡ i = omega (arith, late, inside, long) in
          get_or_push xs n 0 i last ∙ omega (arith, last, long) ∙ sym (get_or-range_with_len 0 (n + 1) i 0 inside)
    ])

pub own_places : (n : ℕ) (order places : List ℕ) → n < 2 ^ 32 → order ≡ range_with_len 0 n → places ≡ range_with_len 0 n → ArePlacesIn order places
own_places n order places few order_is places_are =
    let long : length order ≡ n = ap length order_is ∙ length-range_with_len 0 n in
    let at_order : (p : ℕ) → p < n → get_or order p 0 ≡ p = λ p low. ap (λ l. get_or l p 0) order_is ∙ get_or-range_with_len 0 n p 0 low ∙ omega arith in
    let at_places : (p : ℕ) → p < n → get_or places p 0 ≡ p = λ p low. ap (λ l. get_or l p 0) places_are ∙ get_or-range_with_len 0 n p 0 low ∙ omega arith in
    record {
      count = ap length places_are ∙ length-range_with_len 0 n ∙ sym long;
      few = omega (arith, few, long);
      inputs = λ p low. omega (arith, low, long, at_order p (omega (arith, low, long)));
      places_are = λ p low. omega (arith, low, long, at_places p (omega (arith, low, long)));
      back = λ p low. ap (λ k. get_or order k 0) (at_places p (omega (arith, low, long))) ∙ at_order p (omega (arith, low, long));
    }
