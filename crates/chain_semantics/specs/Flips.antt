-- The signals of a net where one table has the opposite of its value. Source: SALSA's don't-cares, taken at
-- every table.
use Rattle.std.specs.Prelude.{◌≡◌, ◌≢◌, ℕ, ◌+◌, ◌<◌, Bool, false, not, List, [], map, length, slice_index_or}
use Rattle.semantics.specs.Net.{TableValue, NetValue, table_at, input_count, constant_table}
use Rattle.semantics.specs.Value.{Assignment, table_value, value_of}
use Rattle.semantics.specs.Replaced.{replaced}

-- table t became constant, at the opposite of its value at x
abbrev pub flipped_tables : ℕ → List TableValue → List Bool → ℕ → List TableValue
flipped_tables n tables x t = replaced tables t (constant_table [] (not (value_of n tables x (n + t))))

abbrev pub flipped_values : ℕ → List TableValue → List Bool → ℕ → Assignment
flipped_values n tables x t = value_of n (flipped_tables n tables x t) x

-- What the flipped values mean: table t has the opposite of its value at x, and every other table is
-- evaluated from the changed values.
pub record IsFlipped (n : ℕ) (tables : List TableValue) (x : List Bool) (t : ℕ)
    (v : Assignment) : Type 0 where
  pub input : (s : ℕ) → s < n → v s ≡ slice_index_or x s false
  pub itself : v (n + t) ≡ not (value_of n tables x (n + t))
  pub others : (i : ℕ) → i < length tables → i ≢ t → v (n + i) ≡ table_value (table_at tables i) v

-- the outputs at x where table t has the opposite of its value
unfoldable pub flipped_outputs : NetValue → List Bool → ℕ → List Bool
flipped_outputs N x t = map (flipped_values (input_count N) N.tables x t) N.outputs
