-- Bits of a row whose last word is masked.
use Rattle.std.proofs.Common.{◌≡◌, ◌≢◌, ℕ, ◌/◌, ◌%◌, ◌-◌, ◌^◌, ◌<◌, ◌≤◌, Bool, true, false, ◌&&◌, ◌==◌, List, length, get_or, set, refl, ap, sym, ◌∙◌, inl, inr, arith, get_or-set_same}
use Rattle.std.proofs.Common.{get_or-set_other}
use Rattle.std.specs.Prelude.{bit_and}
use Rattle.std.proofs.lemmas.Bool.{cases_eq}
use Rattle.std.proofs.Math.ListN.{length-set}
use Rattle.std.proofs.lemmas.Nat.Bits.{bit_at_ones, bit_at_ones_above}
use Rattle.lane_bits.specs.Rows.{row_bit, word_count}
use Rattle.lane_bits.proofs.Bits.{word_bit, and_bit, row_bit_past}

and_true : (b : Bool) → (b && true) ≡ b
and_true true = refl
and_true false = refl

and_false : (b : Bool) → (b && false) ≡ false
and_false true = refl
and_false false = refl

-- a row of `count` bits that fill its words has no unused bits
pub whole_clear : (row : List ℕ) (count : ℕ) → length row ≡ word_count count → count % 64 ≡ 0 → (p : ℕ) → count ≤ p → row_bit row p ≡ false
whole_clear row count long whole p past = row_bit_past row p (omega (arith, long, whole, past))

-- the last word keeps as many bits as are used
module _ (row : List ℕ) (count word : ℕ) (long : length row ≡ word_count count) (some : count % 64 ≢ 0)
    (is : word ≡ bit_and (get_or row (length row - 1) 0) (2 ^ (count % 64) - 1)) where
  last_bit : (p : ℕ) → p / 64 ≡ length row - 1 → row_bit (set row (length row - 1) word) p ≡ (row_bit row p && word_bit (2 ^ (count % 64) - 1) (p % 64))
  unfolding row_bit
  last_bit p last =
      let inside : length row - 1 < length row = omega (arith, long, some) in
      ap (λ w. word_bit w (p % 64)) (ap (λ k. get_or (set row (length row - 1) word) k 0) last ∙ get_or-set_same row (length row - 1) word 0 inside ∙ is)
      ∙ and_bit (get_or row (length row - 1) 0) (2 ^ (count % 64) - 1) (p % 64)
      ∙ ap (λ k. word_bit (get_or row k 0) (p % 64) && word_bit (2 ^ (count % 64) - 1) (p % 64)) (sym last)

  other_bit : (p : ℕ) → p / 64 ≢ length row - 1 → row_bit (set row (length row - 1) word) p ≡ row_bit row p
  unfolding row_bit
  other_bit p other = ap (λ w. word_bit w (p % 64)) (get_or-set_other row (length row - 1) (p / 64) word 0 other)

  pub masked_same : (p : ℕ) → p < count → row_bit (set row (length row - 1) word) p ≡ row_bit row p
  masked_same p low =
      elim (cases_eq (p / 64) (length row - 1)) [
        | inl last ↦
            let used : p % 64 < count % 64 = omega (arith, long, some, low, last) in
            last_bit p last ∙ ap (λ n. row_bit row p && (n == 1)) (bit_at_ones (count % 64) (p % 64) used) ∙ and_true (row_bit row p)
        | inr other ↦ other_bit p other
      ]

  pub masked_clear : (p : ℕ) → count ≤ p → row_bit (set row (length row - 1) word) p ≡ false
  masked_clear p past =
      elim (cases_eq (p / 64) (length row - 1)) [
        | inl last ↦
            let unused : count % 64 ≤ p % 64 = omega (arith, long, some, past, last) in
            last_bit p last ∙ ap (λ n. row_bit row p && (n == 1)) (bit_at_ones_above (count % 64) (p % 64) unused) ∙ and_false (row_bit row p)
        | inr other ↦ row_bit_past (set row (length row - 1) word) p (omega (arith, long, some, past, other, length-set row (length row - 1) word))
      ]
