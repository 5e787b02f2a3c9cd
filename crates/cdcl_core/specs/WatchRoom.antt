-- Room in the lists of watchers.
use Rattle.std.specs.Prelude.{◌≡◌, ℕ, ◌+◌, ◌<◌, ◌≤◌, List, length, slice_index_or, Vec, vec_len, vec_capacity}

-- the list at place k has room for n items more
pub record HasRoomAt {X Z : Type 0} (lists : List (Vec X Z)) (n k : ℕ) : Type 0 where
  pub room : (v : Vec X Z) → k < length lists → v ≡ slice_index_or lists k v → vec_len v + n ≤ vec_capacity v
