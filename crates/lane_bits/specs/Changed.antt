-- Words of a row that are changed one by one.
use Rattle.std.specs.Prelude.{◌≡◌, ℕ, ◌<◌, ◌≤◌, List, slice_index}

-- the words from place `from` up to place `to` are changed by f, which is told the place and the word; the
-- other words stay
pub record AreChanged (f : ℕ → ℕ → ℕ) (from to : ℕ) (old new : List ℕ) : Type 0 where
  pub changed : (k : ℕ) → from ≤ k → k < to → slice_index new k ≡ f k (slice_index old k)
  pub before : (k : ℕ) → k < from → slice_index new k ≡ slice_index old k
  pub behind : (k : ℕ) → to ≤ k → slice_index new k ≡ slice_index old k
