-- The level of a signal: 0 for an input, and for a table one more than the greatest level of its pins, which
-- is the least number of steps in which it is grounded.
use Rattle.std.specs.Prelude.{◌≡◌, ◌⊎◌, ℕ, ◌+◌, ◌<◌, ◌≤◌, List, [], ◌∷◌, length, max, slice_index_or}
use Rattle.semantics.specs.Net.{TableValue, IsGroundedIn}

pub record IsLevel (n : ℕ) (tables : List TableValue) (s level : ℕ) : Type 0 where
  pub grounded : IsGroundedIn n tables level s
  pub least : (steps : ℕ) → IsGroundedIn n tables steps s → level ≤ steps

abbrev pub AreLevels : ℕ → List TableValue → List ℕ → Type 0
AreLevels n tables levels = (s : ℕ) → s < n + length tables → IsLevel n tables s (slice_index_or levels s 0)

-- the greatest of the levels of these signals
abbrev pub highest : List ℕ → List ℕ → ℕ
highest levels [] = 0
highest levels (s ∷ signals) = max (slice_index_or levels s 0) (highest levels signals)

-- table s is taken before the table at signal t: it has a lower level, or has the same level and stands
-- earlier
abbrev pub IsTaken : List ℕ → ℕ → ℕ → ℕ → Type 0
IsTaken levels level t s = (slice_index_or levels s 0 < level)
    ⊎ ((slice_index_or levels s 0 ≡ level) × (s < t))
