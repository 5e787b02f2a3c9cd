-- Bits of rows that stand one behind another.
use Rattle.std.proofs.Common.{◌≡◌, ℕ, ◌+◌, ◌*◌, ◌/◌, ◌%◌, ◌-◌, ◌<◌, ◌≤◌, List, ◌++◌, length, get_or, take, drop, ap, sym, ◌∙◌, arith}
use Rattle.std.proofs.lemmas.List.{get_or-take, get_or-drop, get_or_append_left, get_or-append-add}
use Rattle.lane_bits.specs.Rows.{row_bit}
use Rattle.lane_bits.proofs.Bits.{word_bit}
use Rattle.sim_core.specs.Parts.{bit_from}

-- ---- where a bit stands

word_from : (start p : ℕ) → (64 * start + p) / 64 ≡ start + p / 64
word_from start p = omega arith

place_from : (start p : ℕ) → (64 * start + p) % 64 ≡ p % 64
place_from start p = omega arith

pub bit_from-is : (xs : List ℕ) (start p : ℕ) → bit_from xs start p ≡ word_bit (get_or xs (start + p / 64) 0) (p % 64)
unfolding row_bit
bit_from-is xs start p = λ j. word_bit (get_or xs (word_from start p j) 0) (place_from start p j)

-- a part of a list of words
pub row_bit-part : (xs : List ℕ) (start words p : ℕ) → p < 64 * words → row_bit (take words (drop start xs)) p ≡ bit_from xs start p
unfolding row_bit
row_bit-part xs start words p low =
    let within : p / 64 < words = omega (arith, low) in
    ap (λ w. word_bit w (p % 64)) (get_or-take words (drop start xs) (p / 64) 0 within ∙ get_or-drop start xs (p / 64) 0)
    ∙ sym (bit_from-is xs start p)

-- the words before a place
pub row_bit-front : (xs : List ℕ) (n q : ℕ) → q < 64 * n → row_bit (take n xs) q ≡ row_bit xs q
unfolding row_bit
row_bit-front xs n q low =
    let within : q / 64 < n = omega (arith, low) in
    ap (λ w. word_bit w (q % 64)) (get_or-take n xs (q / 64) 0 within)

-- a row between others
module _ (front row back new : List ℕ) (start : ℕ) (is : new ≡ front ++ (row ++ back)) (long : length front ≡ start) where
  word_at : (k : ℕ) → k < length row → get_or new (start + k) 0 ≡ get_or row k 0
  word_at k low =
      ap (λ (xs : List ℕ). get_or xs (start + k) 0) is ∙ ap (λ (s : ℕ). get_or (front ++ (row ++ back)) (s + k) 0) (sym long)
      ∙ get_or-append-add front (row ++ back) k 0 ∙ get_or_append_left row back 0 k low

  pub joined-row : (p : ℕ) → p < 64 * length row → bit_from new start p ≡ row_bit row p
  unfolding row_bit
  joined-row p low =
      let within : p / 64 < length row = omega (arith, low) in
      bit_from-is new start p ∙ ap (λ w. word_bit w (p % 64)) (word_at (p / 64) within)

  pub joined-before : (q : ℕ) → q < 64 * start → row_bit new q ≡ row_bit front q
  unfolding row_bit
  joined-before q low =
      let within : q / 64 < length front = omega (arith, low, long) in
      ap (λ w. word_bit w (q % 64)) (ap (λ (xs : List ℕ). get_or xs (q / 64) 0) is ∙ get_or_append_left front (row ++ back) 0 (q / 64) within)

-- a part that is read ahead of a place, by the terms of its code
pub part_before : (old front : List ℕ) (start a words p : ℕ) → front ≡ take start old → a + words ≤ start → p < 64 * words → row_bit (take (a + words - a) (drop a front)) p ≡ bit_from old a p
part_before old front start a words p is ends low =
    let wide : a + words - a ≡ words = omega arith in
    let inside : 64 * a + p < 64 * start = omega (arith, ends, low) in
    ap (λ n. row_bit (take n (drop a front)) p) wide ∙ row_bit-part front a words p low ∙ ap (λ (xs : List ℕ). bit_from xs a p) is ∙ row_bit-front old start (64 * a + p) inside

-- a part that is read, by the terms of its code
pub part_read : (xs ys : List ℕ) (start words at p : ℕ) → xs ≡ ys → start ≡ at → p < 64 * words → row_bit (take (start + words - start) (drop start xs)) p ≡ bit_from ys at p
part_read xs ys start words at p same here low =
    let wide : start + words - start ≡ words = omega arith in
    ap (λ n. row_bit (take n (drop start xs)) p) wide ∙ row_bit-part xs start words p low ∙ (λ j. bit_from (same j) (here j) p)
