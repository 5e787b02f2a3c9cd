-- How the trail is held: each variable that stands in the trail has its place there.
use Rattle.std.specs.Prelude.{ℤ, ◌≡◌, ℕ, ◌+◌, ◌-◌, ◌*◌, ◌<◌, ◌≤◌, Bool, true, false, Option, List, length}
use Rattle.std.specs.Prelude.{slice_index_or, nat_abs}
use Rattle.cdcl_core.specs.Trail.{literal_at}
use Rattle.cdcl_core.specs.Explained.{Holds}
use Rattle.cdcl_core.specs.Watched.{index_of}

pub record TrailValue : Type 0 where
  pub variables : ℕ
  pub literals : List ℤ
  pub reasons : List (Option ℕ)
  pub starts : List ℕ

-- the start of the last level
abbrev pub last_start : TrailValue → ℕ
last_start t = slice_index_or t.starts (length t.starts - 1) 0

-- `told` says of each literal whether it is true
pub record AreTold (told : List Bool) (trail : List ℤ) : Type 0 where
  pub sound : (l : ℤ) → slice_index_or told (index_of l) false ≡ true → Holds trail l
  pub complete : (l : ℤ) → Holds trail l → slice_index_or told (index_of l) false ≡ true

-- each entry's variable has the entry's place
pub record IsPlaced (places : List ℕ) (trail : List ℤ) : Type 0 where
  pub some : 0 < length places
  pub literal : (i : ℕ) → i < length trail
      → (0 < nat_abs (literal_at trail i)) × (nat_abs (literal_at trail i) < length places)
  pub at : (i : ℕ) → i < length trail → slice_index_or places (nat_abs (literal_at trail i)) 0 ≡ i

-- the trail, with the places and with `told`
pub record IsHeld (places : List ℕ) (told : List Bool) (trail : List ℤ) : Type 0 where
  pub placed : IsPlaced places trail
  pub told_values : AreTold told trail
  pub wide : length told ≡ length places * 2

-- how many reasons there are, and room for how many literals and reasons
pub record TrailSpace : Type 0 where
  pub reasons : ℕ
  pub literal_room : ℕ
  pub reason_room : ℕ

-- the trail, with the places, with `told` and with a reason for each entry; and there is room for more
-- entries than there are variables
pub record HasPlaces (places : List ℕ) (told : List Bool) (trail : List ℤ) (space : TrailSpace) : Type 0 where
  pub held : IsHeld places told trail
  pub same_length : space.reasons ≡ length trail
  pub for_literals : length places + 1 ≤ space.literal_room
  pub for_reasons : length places + 1 ≤ space.reason_room
