-- Which input is at which place of a counting order, and sets of vectors in such an order.
use Rattle.std.specs.Prelude.{◌≡◌, ℕ, ◌<◌, ◌^◌, Bool, List, [], length, slice_index, slice_index_or}
use Rattle.lane_bits.specs.Patterns.{PatternSet}

-- each place has an input, and each input its place
pub record ArePlacesIn (order places : List ℕ) : Type 0 where
  pub count : length places ≡ length order
  pub few : length order < 2 ^ 32
  pub inputs : (p : ℕ) → p < length order → slice_index order p < length order
  pub places_are : (i : ℕ) → i < length order → slice_index places i < length order
  pub back : (i : ℕ) → i < length order → slice_index order (slice_index places i) ≡ i

-- each vector of that many bits is one of the set
abbrev pub HasEveryVector : PatternSet → Type 0
HasEveryVector s = (x : List Bool) → length x ≡ s.inputs
    → (p : ℕ) × (p < length s.vectors) × (slice_index_or s.vectors p [] ≡ x)
