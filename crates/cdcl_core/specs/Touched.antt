-- The places that were marked are listed.
use Rattle.std.specs.Prelude.{◌≡◌, ℕ, ◌<◌, ◌≤◌, Bool, true, false, List, length, slice_index, slice_index_or}
use Rattle.std.specs.Prelude.{All}
use Rattle.std.specs.List.{count_by}

-- p is one of the listed places from number `first` on
pub record IsListed (touched : List ℕ) (first p : ℕ) : Type 0 where
  pub at : ℕ
  pub from : first ≤ at
  pub within : at < length touched
  pub is : slice_index touched at ≡ p

-- each listed place is one of the places, and each marked place is listed from number `first` on
pub record AreTouchedFrom (on : List Bool) (touched : List ℕ) (first : ℕ) : Type 0 where
  pub within : All (λ p. p < length on) touched
  pub listed : (p : ℕ) → slice_index_or on p false ≡ true → IsListed touched first p

abbrev pub AreTouched : List Bool → List ℕ → Type 0
AreTouched on touched = AreTouchedFrom on touched 0

-- the places that were marked are listed, each once, and there is room to list all places and to sort them
pub record AreListed (on listed : List Bool) (touched : List ℕ) (list_room sort_room : ℕ) : Type 0 where
  pub places : length listed ≡ length on
  pub marked : (p : ℕ) → slice_index_or on p false ≡ true → slice_index_or listed p false ≡ true
  pub all : AreTouched listed touched
  pub once : length touched ≡ count_by (λ b. b) listed
  pub to_list : length on ≤ list_room
  pub to_sort : length on ≤ sort_room
