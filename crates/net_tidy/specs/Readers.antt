-- Lists of the places that read each signal.
use Rattle.std.specs.Prelude.{◌≡◌, ℕ, ◌-◌, ◌<◌, true, List, [], length, slice_index, slice_index_or}
use Rattle.semantics.specs.Net.{TableValue, table_at}
use Rattle.chain_semantics.specs.TidyRules.{has}

abbrev pub list_at : List (List ℕ) → ℕ → List ℕ
list_at lists s = slice_index_or lists s []

pub record IsLast (places : List ℕ) (place : ℕ) : Type 0 where
  pub some : 0 < length places
  pub is : place ≡ slice_index places (length places - 1)

-- what was listed is still listed
pub record IsWider (old new : List (List ℕ)) : Type 0 where
  pub keeps : (s j : ℕ) → has (list_at old s) j ≡ true → has (list_at new s) j ≡ true

-- a table that reads a signal is on the list of the signal
pub record IsListed (tables : List TableValue) (lists : List (List ℕ)) : Type 0 where
  pub reader : (s j : ℕ) → has (table_at tables j).pins s ≡ true → has (list_at lists s) j ≡ true
