-- Tables on their way into an order: each table that has no place in it yet waits for a table that it reads.
use Rattle.std.specs.Prelude.{◌≡◌, ◌⊎◌, ◌↔◌, ℕ, ◌+◌, ◌<◌, ◌≤◌, Bool, true, false, List, [], ◌∷◌, ◌++◌}
use Rattle.std.specs.Prelude.{length, take, slice_index, slice_index_or, slice_set, All, Contains}
use Rattle.semantics.specs.Net.{TableValue, table_at}
use Rattle.semantics.specs.Order.{IsKnown, IsOrderAfter}

-- the order so far; for each table the tables that wait for it; and for each table the number of its pins
-- that are known to be ready
pub record Sorting : Type 0 where
  pub order : List ℕ
  pub waiters : List (List ℕ)
  pub checked : List ℕ

-- the tables in the order so far are marked, and no others
abbrev pub IsMarked : List ℕ → List Bool → Type 0
IsMarked order placed = (i : ℕ) → (slice_index_or placed i false ≡ true) ↔ Contains order i

abbrev pub waiters_of : Sorting → ℕ → List ℕ
waiters_of S t = slice_index_or S.waiters t []

-- table i stands at the end of the order
abbrev pub placed_at_end : Sorting → ℕ → Sorting
placed_at_end S i = record S { order = S.order ++ i ∷ [] }

-- table i, whose first `ready` pins are ready, waits for table t
abbrev pub waiting_for : Sorting → ℕ → ℕ → ℕ → Sorting
waiting_for S t i ready = record S
    { waiters = slice_set S.waiters t (waiters_of S t ++ i ∷ []); checked = slice_set S.checked i ready }

abbrev pub without_waiters : Sorting → ℕ → Sorting
without_waiters S t = record S { waiters = slice_set S.waiters t [] }

-- the first pin that is neither an input nor a table that stands before
pub record IsFirstUnknown (n : ℕ) (before pins : List ℕ) (k : ℕ) : Type 0 where
  pub within : k < length pins
  pub unknown : ¬ IsKnown n before (slice_index pins k)
  pub known : All (IsKnown n before) (take k pins)

-- what each step of sorting keeps
pub record IsSorting (n : ℕ) (tables : List TableValue) (S : Sorting) : Type 0 where
  pub size : length S.waiters ≡ length tables
  pub in_turn : IsOrderAfter n tables [] S.order
  pub ready : (i : ℕ) → All (IsKnown n S.order) (take (slice_index S.checked i) (table_at tables i).pins)
  pub waiting : (t : ℕ) → All (λ i. i < length tables) (waiters_of S t)

-- table i waits for a table that it reads
pub record Waits (n : ℕ) (tables : List TableValue) (S : Sorting) (i : ℕ) : Type 0 where
  pub on : ℕ
  pub within : on < length tables
  pub listed : Contains (waiters_of S on) i
  pub read : Contains (table_at tables i).pins (n + on)

-- each table without a place waits or is in hand, and no table waits for one of the first `head` tables of
-- the order
pub record IsSettled (n : ℕ) (tables : List TableValue) (S : Sorting) (head : ℕ)
    (in_hand : List ℕ) : Type 0 where
  pub so_far : head ≤ length S.order
  pub settled : (i : ℕ) → i < length tables → (¬ Contains S.order i) → Waits n tables S i ⊎ Contains in_hand i
  pub emptied : (k : ℕ) → k < head → waiters_of S (slice_index S.order k) ≡ []
