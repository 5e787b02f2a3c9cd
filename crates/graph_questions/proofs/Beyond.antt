-- Words as numbers, and how far apart two words are by the sum that is kept.
use Rattle.std.proofs.Common.{◌≡◌, ℕ, zero, suc, ◌+◌, ◌-◌, ◌*◌, ◌^◌, ◌<◌, ◌≤◌, Bool, true, false, not, ◌&&◌, List, [], ◌∷◌, ◌++◌, length, take, drop, map, refl, sym, ap, subst, ◌∙◌, arith}
use Rattle.std.specs.Prelude.{replicate}
use Rattle.std.proofs.Math.Nat.{mul-add, mul_comm, mul_assoc}
use Rattle.std.proofs.Math.Seq.{take-append_seam, drop-append_seam}
use Rattle.std.proofs.lemmas.Bool.{lt-ltb, le-ltb}
use Rattle.std.proofs.lemmas.Nat.{pow-add, pow_pos, mul-add-lt, same_from_place}
use Rattle.std.proofs.lemmas.List.{length-map, map-append}
use Rattle.semantics.specs.Value.{Assignment}
use Rattle.semantics.specs.Error.{number_of, bit_number, distance}
use Rattle.semantics.proofs.Vectors.{number_of-lt_width}
use Rattle.aig_core.specs.Graph.{GraphValue, literal_value, IsConsistent}
use Rattle.aig_core.specs.Grown.{Grows, IsConjunctionOf, IsOppositeOf}
use Rattle.aig_core.proofs.Growing.{consistent_before}
use Rattle.literal_sums.specs.declared.term.Term.{Term}
use Rattle.literal_sums.specs.Sums.{Agree, counted, sum_value, word_value}
use Rattle.literal_sums.specs.Words.{IsWordOf}
use Rattle.graph_questions.specs.LowPlaces.{halves_distance, IsApartLiteral}
use Rattle.graph_questions.specs.Gaps.{lowest_weight, IsBeyond}

-- ---- what a word counts

one_more : (b : Bool) (w n r : ℕ) → r ≡ (2 * w) * n → counted b w + r ≡ w * (bit_number b + 2 * n)
one_more true w n r is = omega (arith, mul-add w 1 (2 * n), turned, is) where
  turned : w * (2 * n) ≡ (2 * w) * n
  turned = sym (mul_assoc w 2 n) ∙ ap (λ m. m * n) (mul_comm w 2)
one_more false w n r is = omega (arith, turned, is, nothing) where
  turned : w * (2 * n) ≡ (2 * w) * n
  turned = sym (mul_assoc w 2 n) ∙ ap (λ m. m * n) (mul_comm w 2)

  nothing : w * (0 + 2 * n) ≡ w * (2 * n)
  nothing = ap (λ m. w * m) (omega arith)

pub word_is : (v : Assignment) (ls : List ℕ) (w : ℕ) → word_value v w ls ≡ w * number_of (map (literal_value v) ls)
unfolding word_value
word_is v [] w = omega arith
word_is v (l ∷ ls) w = one_more (literal_value v l) w (number_of (map (literal_value v) ls)) (word_value v (2 * w) ls) (word_is v ls (2 * w))

-- a weight, and how many of it make 2^32
pub whole : (p : ℕ) → p ≤ 31 → lowest_weight p * 2 ^ p ≡ 4294967296
whole p few = let places : (32 - p) + p ≡ 32 = omega (arith, few) in sym (pow-add 2 (32 - p) p) ∙ ap (λ n. 2 ^ n) places

-- two multiples of a weight that agree
same_multiples : (w P z n t : ℕ) → w * P ≡ 4294967296 → 0 < w → z < P → n < P → Agree t (w * z) → Agree t (w * n) → z ≡ n
same_multiples w P z n t all some low low_too one two = (same_from_place z 0 n 0 w some some (omega (arith, first, second, one, two, mul_comm w z, mul_comm w n, all))).0 where
  first : z * w + 0 < w * P
  first = mul-add-lt z w 0 P low some

  second : n * w + 0 < w * P
  second = mul-add-lt n w 0 P low_too some

-- ---- a word beside nothing

nothing_is : (v : Assignment) (p : ℕ) → v 0 ≡ false → number_of (map (literal_value v) (replicate p 0)) ≡ 0
nothing_is v zero none = refl
nothing_is v (suc p) none = let bit : bit_number (v 0) ≡ 0 = ap bit_number none in omega (arith, bit, nothing_is v p none)

pub beside_nothing : (v : Assignment) (p : ℕ) (word both : List ℕ) → v 0 ≡ false → length word ≡ p → both ≡ word ++ replicate p 0
    → halves_distance p (map (literal_value v) both) ≡ number_of (map (literal_value v) word)
beside_nothing v p word both none width is =
    let bits : List Bool = map (literal_value v) word in
    let zeros : List Bool = map (literal_value v) (replicate p 0) in
    let bits_are : map (literal_value v) both ≡ bits ++ zeros = ap (map (literal_value v)) is ∙ map-append (literal_value v) word (replicate p 0) in
    let bits_width : length bits ≡ p = length-map word (literal_value v) ∙ width in
    let front : take p (map (literal_value v) both) ≡ bits = ap (take p) bits_are ∙ subst (λ n. take n (bits ++ zeros) ≡ bits) bits_width (take-append_seam bits zeros) in
    let rest : drop p (map (literal_value v) both) ≡ zeros = ap (drop p) bits_are ∙ subst (λ n. drop n (bits ++ zeros) ≡ zeros) bits_width (drop-append_seam bits zeros) in
    let halves : halves_distance p (map (literal_value v) both) ≡ distance (number_of bits) (number_of zeros) = λ i. distance (number_of (front i)) (number_of (rest i)) in
    omega (arith, halves, nothing_is v p none)

conjunction : (a b : Bool) → a ≡ true → b ≡ false → (a && not b) ≡ true
conjunction a b is other = cc

module _ (a b c d : GraphValue) (terms : List Term) (word both : List ℕ) (p k beyond around other l : ℕ) where
  -- the sum is more than the level, and not too near to a multiple of 2^p
  pub beyond_is : Grows a b → Grows b c → Grows c d → p ≤ 31 → IsWordOf a terms (32 - p) word → both ≡ word ++ replicate p 0 → IsApartLiteral b both p k beyond
      → IsApartLiteral c both p (2 ^ p - 1 - k) around → IsOppositeOf around other → IsConjunctionOf d beyond other l → IsBeyond d p k terms l
  beyond_is ab bc cd few told pair first second turned joined = record {
    within = joined.within;
    beyond = λ x v z val low is over near.
        let val_c : IsConsistent c x v = consistent_before c d x v cd val in
        let val_b : IsConsistent b x v = consistent_before b c x v bc val_c in
        let val_a : IsConsistent a x v = consistent_before a b x v ab val_b in
        let n : ℕ = number_of (map (literal_value v) word) in
        let width : length word ≡ p = omega (arith, told.long, few) in
        let n_low : n < 2 ^ p = number_of-lt_width p (map (literal_value v) word) (length-map word (literal_value v) ∙ width) in
        let agree : Agree (sum_value v terms) (lowest_weight p * n) = subst (Agree (sum_value v terms)) (word_is v word (lowest_weight p)) (told.is x v val_a) in
        let same : z ≡ n = same_multiples (lowest_weight p) (2 ^ p) z n (sum_value v terms) (whole p few) (pow_pos (32 - p)) low n_low is agree in
        let halves : halves_distance p (map (literal_value v) both) ≡ z = beside_nothing v p word both val.constant width pair ∙ sym same in
        let more : literal_value v beyond ≡ true = first.is x v val_b ∙ lt-ltb k _ (subst (λ n. k < n) (sym halves) over) in
        let not_around : literal_value v around ≡ false =
        second.is x v val_c ∙ le-ltb (2 ^ p - 1 - k) _ (subst (λ n. n ≤ 2 ^ p - 1 - k) (sym halves) (omega (arith, near))) in
        joined.is x v val ∙ ap (λ t. literal_value v beyond && t) (turned.is v) ∙ conjunction (literal_value v beyond) (literal_value v around) more not_around;
  }
