-- Where a table stands in an order, and what is known there.
use Rattle.std.specs.Prelude.{◌≡◌, ℕ, ◌<◌, List, length, take, slice_index}
use Rattle.semantics.specs.Order.{IsKnown}

-- signal s is an input, or a table that stands before table t
abbrev pub IsKnownAt : ℕ → List ℕ → ℕ → ℕ → Type 0
IsKnownAt n order t s = (k : ℕ) → k < length order → slice_index order k ≡ t → IsKnown n (take k order) s
