-- Which patterns err, and how far. Source: exhaustive simulation of approximate circuits.
use Rattle.std.specs.Prelude.{◌≡◌, ℕ, ◌<◌, ◌≤◌, Bool, Option, MatchOption, List, length}
use Rattle.lane_nets.specs.Blocks.{vector_at}

-- p is the first pattern whose error exceeds the level
pub record IsFirstOver (error : List Bool → ℕ) (level : ℕ) (vectors : List (List Bool)) (p : ℕ) : Type 0 where
  pub within : p < length vectors
  pub over : level < error (vector_at vectors p)
  pub first : (q : ℕ) → q < p → error (vector_at vectors q) ≤ level

-- p is the first pattern whose error exceeds the level; there is no p where the error of no pattern does
abbrev pub FindsFirstOver : (List Bool → ℕ) → ℕ → List (List Bool) → Option ℕ → Type 0
FindsFirstOver error level vectors found =
    MatchOption found ((p : ℕ) → p < length vectors → error (vector_at vectors p) ≤ level)
    (IsFirstOver error level vectors)

-- `most` is the greatest of the first `count` values of f, and p the first place that has it
pub record IsFirstGreatestOf (f : ℕ → ℕ) (count most p : ℕ) : Type 0 where
  pub within : p < count
  pub attained : f p ≡ most
  pub greatest : (q : ℕ) → q < count → f q ≤ most
  pub first : (q : ℕ) → q < p → f q < most

-- no pattern's error is greater than `most`, and p is the first pattern that has it
abbrev pub IsFirstGreatest : (List Bool → ℕ) → List (List Bool) → ℕ → ℕ → Type 0
IsFirstGreatest error vectors most p =
    IsFirstGreatestOf (λ q. error (vector_at vectors q)) (length vectors) most p

-- `at` is the first of the places below the bound that has the greatest value, `most`; or `most` is 0
pub record IsGreatestSoFar (f : ℕ → ℕ) (bound at most : ℕ) : Type 0 where
  pub within : 0 < at → at < bound
  pub attained : 0 < most → f at ≡ most
  pub greatest : (k : ℕ) → k < bound → f k ≤ most
  pub first : (k : ℕ) → k < at → f k < most
