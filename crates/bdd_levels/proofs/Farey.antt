-- Which fractions do for a level.
use Rattle.std.proofs.Common.{◌≡◌, ℕ, zero, suc, ◌+◌, ◌-◌, ◌*◌, ◌^◌, ◌<◌, ◌≤◌, ltb, inl, inr, refl, ap, sym, ◌∙◌, arith}
use Rattle.std.proofs.Math.Nat.{mul-lt-mul_of_pos_right, lt_of_mul-lt-mul_right, mul_right_comm, add-mul}
use Rattle.std.proofs.lemmas.Nat.{mul-le}
use Rattle.std.proofs.lemmas.Bool.{cases_lt, lt-ltb, le-ltb}
use Rattle.bdd_levels.specs.declared.relative.Ratio.{Ratio}
use Rattle.bdd_levels.specs.Ratios.{IsAtMost, IsExactly, IsAbove, AreNeighbours, IsRatioFor}

-- two tests that say the same
same_tests : (a b c d : ℕ) → (a < b → c < d) → (c < d → a < b) → ltb a b ≡ ltb c d
same_tests a b c d to from =
    elim (cases_lt a b) [
      | inl h ↦ lt-ltb a b h ∙ sym (lt-ltb c d (to h))
      | inr h ↦ le-ltb a b h ∙ sym (le-ltb c d (elim (cases_lt c d) [ inl more ↦ absurd (omega (arith, from more, h)) | inr less ↦ less ]))
    ]

module _ (k p q d m : ℕ) where
  -- more than the level is more than a fraction that is at most the level
  pub down : p * 1000000 ≤ k * q → 0 < q → k * m < d * 1000000 → p * m < d * q
  down less some h =
      let one : p * 1000000 * m ≤ k * q * m = mul-le (p * 1000000) m (k * q) m less (omega arith) in
      let two : k * m * q < d * 1000000 * q = mul-lt-mul_of_pos_right h some in
      lt_of_mul-lt-mul_right 1000000 (omega (arith, one, two, mul_right_comm p 1000000 m, mul_right_comm k q m, mul_right_comm d 1000000 q))

  -- more than a fraction that is at least the level is more than the level
  pub up : k * q ≤ p * 1000000 → p * m < d * q → k * m < d * 1000000
  up less h =
      let one : k * q * m ≤ p * 1000000 * m = mul-le (k * q) m (p * 1000000) m less (omega arith) in
      let two : p * m * 1000000 < d * q * 1000000 = mul-lt-mul_of_pos_right h (omega arith) in
      lt_of_mul-lt-mul_right q (omega (arith, one, two, mul_right_comm p 1000000 m, mul_right_comm k q m, mul_right_comm d 1000000 q))

-- what lies between two neighbours has a denominator of at least both together
between : (p q p' q' d m a b : ℕ) → p' * q ≡ p * q' + 1 → d * q ≡ p * m + a → p' * m ≡ d * q' + b → 1 ≤ a → 1 ≤ b → q + q' ≤ m
between p q p' q' d m a b near above below some_a some_b =
    let t1 : p' * q * m ≡ p * q' * m + m = ap (λ t. t * m) near ∙ add-mul (p * q') 1 m ∙ omega arith in
    let t2 : p' * m * q ≡ d * q' * q + b * q = ap (λ t. t * q) below ∙ add-mul (d * q') b q in
    let t3 : d * q * q' ≡ p * m * q' + a * q' = ap (λ t. t * q') above ∙ add-mul (p * m) a q' in
    let one : 1 * q' ≤ a * q' = mul-le 1 q' a q' some_a (omega arith) in
    let two : 1 * q ≤ b * q = mul-le 1 q b q some_b (omega arith) in
    omega (arith, t1, t2, t3, one, two, mul_right_comm p' q m, mul_right_comm d q' q, mul_right_comm p m q')

module _ (w k : ℕ) (low high : Ratio) where
  pub exactly : IsExactly k low → IsRatioFor w k low
  exactly is = record {
    same = λ d m some small.
        same_tests (low.numerator * m) (d * low.denominator) (k * m) (d * 1000000)
        (up k low.numerator low.denominator d m (omega (arith, is.same)))
        (down k low.numerator low.denominator d m (omega (arith, is.same)) is.some);
  }

  pub closely : IsAtMost k low → IsAbove k high → AreNeighbours low high → 2 ^ w ≤ low.denominator + high.denominator → IsRatioFor w k low
  closely at_most above near fine = record {
    same = λ d m some small.
        same_tests (low.numerator * m) (d * low.denominator) (k * m) (d * 1000000)
        (rising d m some small)
        (down k low.numerator low.denominator d m at_most.is positive);
  }
    where
      p : ℕ
      p = low.numerator

      q : ℕ
      q = low.denominator

      positive : 0 < low.denominator
      positive = some_of low.denominator near.is
        where
          some_of : (n : ℕ) → high.numerator * n ≡ low.numerator * high.denominator + 1 → 0 < n
          some_of zero h = absurd (omega (arith, h))
          some_of (suc n) h = omega arith

      rising : (d m : ℕ) → 1 ≤ m → m < 2 ^ w → low.numerator * m < d * low.denominator → k * m < d * 1000000
      rising d m some small h = elim (cases_lt (k * m) (d * 1000000)) [
        | inl more ↦ more
        | inr less ↦
            let one : d * 1000000 * high.denominator ≤ k * m * high.denominator = mul-le (d * 1000000) high.denominator (k * m) high.denominator less (omega arith) in
            let two : k * high.denominator * m < high.numerator * 1000000 * m = mul-lt-mul_of_pos_right above.is (omega (arith, some)) in
            let under : d * high.denominator < high.numerator * m = lt_of_mul-lt-mul_right 1000000
            (omega (arith, one, two, mul_right_comm d 1000000 high.denominator, mul_right_comm k m high.denominator, mul_right_comm high.numerator 1000000 m)) in
            let far : low.denominator + high.denominator ≤ m
            = between low.numerator low.denominator high.numerator high.denominator d m (d * low.denominator - low.numerator * m) (high.numerator * m - d * high.denominator)
            near.is (omega (arith, h)) (omega (arith, under)) (omega (arith, h)) (omega (arith, under)) in
            absurd (omega (arith, far, small, fine))
      ]

-- the millionths themselves
pub millionths : (w k : ℕ) (r : Ratio) → r.numerator ≡ k → r.denominator ≡ 1000000 → IsRatioFor w k r
millionths w k r n d = record { same = λ e m some small. rw (n, d) refl }
