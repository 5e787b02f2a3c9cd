-- The level of a relative error as a fraction. Source: Farey's sequences.
use Rattle.std.specs.Prelude.{◌≡◌, ℕ, ◌+◌, ◌*◌, ◌^◌, ◌<◌, ◌≤◌, nat_lt}
use Rattle.bdd_levels.specs.declared.relative.Ratio.{Ratio}

-- the fraction is k millionths, is at most k millionths, or is more
pub record IsExactly (k : ℕ) (r : Ratio) : Type 0 where
  pub same : r.numerator * 1000000 ≡ k * r.denominator
  pub some : 0 < r.denominator

pub record IsAtMost (k : ℕ) (r : Ratio) : Type 0 where
  pub is : r.numerator * 1000000 ≤ k * r.denominator

pub record IsAbove (k : ℕ) (r : Ratio) : Type 0 where
  pub is : k * r.denominator < r.numerator * 1000000

-- neighbours in a Farey sequence
pub record AreNeighbours (low high : Ratio) : Type 0 where
  pub is : high.numerator * low.denominator ≡ low.numerator * high.denominator + 1

-- d parts of m are more than the fraction exactly where they are more than k millionths, for each m of at
-- most w bits
pub record IsRatioFor (w k : ℕ) (r : Ratio) : Type 0 where
  pub same : (d m : ℕ) → 1 ≤ m → m < 2 ^ w
      → nat_lt (r.numerator * m) (d * r.denominator) ≡ nat_lt (k * m) (d * 1000000)
