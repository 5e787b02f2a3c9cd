-- Words of 64 patterns where a table is turned over. Source: SALSA's approximation don't-cares.
use Rattle.std.specs.Prelude.{◌≡◌, ◌≢◌, ℕ, ◌+◌, ◌<◌, ◌⊎◌, Bool, List, length, take, slice_index_or, Contains}
use Rattle.semantics.specs.Net.{NetValue, table_at, input_count, table_count, signal_count}
use Rattle.semantics.specs.Dependence.{DependsOn}
use Rattle.semantics.specs.Order.{IsKnown}
use Rattle.chain_semantics.specs.Flips.{flipped_values}
use Rattle.lane_nets.specs.Words.{values_at}

-- at pattern b each signal has the value that it has at x where table t has the opposite of its own
abbrev pub HasFlippedValues : NetValue → ℕ → List ℕ → ℕ → List Bool → Type 0
HasFlippedValues N t words b x = (s : ℕ) → s < signal_count N
    → values_at words b s ≡ flipped_values (input_count N) N.tables x t s

-- what does not depend on table t, table t itself, and what was computed again before
abbrev pub IsSettled : NetValue → ℕ → List ℕ → ℕ → Type 0
IsSettled N t before s = (¬ DependsOn (input_count N) N.tables t s)
    ⊎ ((s ≡ input_count N + t) ⊎ IsKnown (input_count N) before s)

-- tables other than t, each of which reads only what is settled by table t and by those before it
pub record AreInTurn (N : NetValue) (t : ℕ) (later : List ℕ) : Type 0 where
  pub tables : (k : ℕ) → k < length later → slice_index_or later k 0 < table_count N
  pub others : (k : ℕ) → k < length later → slice_index_or later k 0 ≢ t
  pub reads : (k p : ℕ) → k < length later → Contains (table_at N.tables (slice_index_or later k 0)).pins p
      → IsSettled N t (take k later) p

-- the tables other than t that depend on table t, each behind those of them that it reads
pub record AreLater (N : NetValue) (t : ℕ) (later : List ℕ) : Type 0 where
  pub in_turn : AreInTurn N t later
  pub all : (s : ℕ) → s < signal_count N → IsSettled N t later s
