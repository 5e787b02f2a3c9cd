-- The network of a fraction says whether the relative error of a word exceeds the level.
use Rattle.std.proofs.Common.{◌≡◌, ℕ, zero, suc, ◌-◌, ◌*◌, ◌%◌, ◌^◌, ◌<◌, ◌≤◌, max, ltb, List, length, map, ap, sym, ◌∙◌, arith}
use Rattle.std.proofs.Math.Nat.{pow-le-pow_right}
use Rattle.std.proofs.lemmas.Bool.{le-ltb}
use Rattle.std.proofs.lemmas.Nat.{pow_pos}
use Rattle.std.proofs.lemmas.List.{length-map}
use Rattle.semantics.specs.declared.metric.Kind.TheVariants.{Rel}
use Rattle.semantics.specs.Error.{distance}
use Rattle.semantics.proofs.Sizes.{word_error-le}
use Rattle.semantics.proofs.Vectors.{number_of-lt_width}
use Rattle.quality_semantics.specs.WordNets.{WordNetValue, BeginsWith}
use Rattle.quality_semantics.specs.Laws.{number}
use Rattle.quality_semantics.proofs.Growth.{Fits-earlier}
use Rattle.quality_semantics.proofs.Rounding.{rounded_up_exceeds}
use Rattle.bus_nets.specs.Numbers.{HasNumber, HasBit}
use Rattle.bdd_levels.specs.declared.relative.Ratio.{Ratio}
use Rattle.bdd_levels.specs.Ratios.{IsRatioFor}
use Rattle.bdd_levels.specs.Words.{SaysWordExcess}

one_or_more : (e : ℕ) → 1 ≤ max 1 e
one_or_more e = grind arith

few_or_one : (w e : ℕ) → 0 < w → e < 2 ^ w → max 1 e < 2 ^ w
few_or_one zero e some below = absurd (omega (arith, some))
few_or_one (suc w) e some below = let one : 0 < 2 ^ w = pow_pos w in grind (arith, one, below)

pub ratio_says : (k : ℕ) (ratio : Ratio) (M L V : WordNetValue) (e a m z : List ℕ) (s : ℕ) → 0 < length e → HasNumber M m (λ v. max 1 (number v e)) → BeginsWith L M
    → HasNumber L z (λ v. ratio.numerator * number v m) → BeginsWith V L → HasBit V s (λ v. ltb (number v z) (distance (number v e) (number v a) * ratio.denominator)) → IsRatioFor (length e) k ratio
    → SaysWordExcess Rel k (record { exact = e; approximate = a }) V s
ratio_says k ratio M L V e a m z s some divisor to_M level to_L far is = record {
  at = λ v fits.
      let at_L = Fits-earlier v V L to_L fits in
      let at_M = Fits-earlier v L M to_M at_L in
      let below : number v e < 2 ^ length e = number_of-lt_width (length e) (map v e) (length-map e v) in
      let apart : ℕ = distance (number v e) (number v a) in
      let least : ℕ = max 1 (number v e) in
      far.at v fits
      ∙ ap (λ n. ltb n (apart * ratio.denominator)) (level.at v at_L ∙ ap (λ n. ratio.numerator * n) (divisor.at v at_M))
      ∙ is.same apart least (one_or_more (number v e)) (few_or_one (length e) (number v e) some below)
      ∙ sym (rounded_up_exceeds (apart * 1000000) least k (one_or_more (number v e)));
}

-- `(1 << width) - 1` is the greatest number
most : (w : ℕ) → w ≤ 64 → (1 * 2 ^ w) % 2 ^ 128 - 1 ≡ 2 ^ w - 1
most w narrow = let few : 2 ^ w ≤ 2 ^ 64 = pow-le-pow_right (omega arith) narrow in omega (arith, few)

-- no relative error exceeds a level from the greatest one on
pub never_says : (w k : ℕ) (W : WordNetValue) (e a : List ℕ) (s : ℕ) → w ≡ length e → w ≤ 64 → length e ≡ length a → ((1 * 2 ^ w) % 2 ^ 128 - 1) * 1000000 ≤ k → s ≡ W.inputs
    → SaysWordExcess Rel k (record { exact = e; approximate = a }) W s
never_says w k W e a s width narrow widths high is = record {
  at = λ v fits.
      let within = word_error-le Rel w (map v e) (map v a) (length-map e v ∙ sym width) (length-map a v ∙ sym widths ∙ sym width) in
      ap v is ∙ fits.zero ∙ sym (le-ltb k _ (omega (arith, within, high, most w narrow)));
}
