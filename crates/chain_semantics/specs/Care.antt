-- The inputs at which the value of a table matters to the error. Source: SALSA's approximation don't-cares,
-- taken at every table.
use Rattle.std.specs.Prelude.{◌≢◌, ℕ, ◌+◌, ◌<◌, Bool, List}
use Rattle.semantics.specs.Net.{NetValue, table_at, input_count}
use Rattle.semantics.specs.Value.{table_value, value_of, outputs_of}
use Rattle.semantics.specs.Error.{error_of, net_error}
use Rattle.semantics.specs.declared.metric.Metric.{Metric}
use Rattle.chain_semantics.specs.declared.moves.Move.{Move}
use Rattle.chain_semantics.specs.Moves.{table_of, moved_table, moved}
use Rattle.chain_semantics.specs.Flips.{flipped_outputs}

-- where table t has the opposite of its value, the error at x exceeds the bound; where the error does not, x
-- is an approximation don't-care of t
abbrev pub IsCaredFor : Metric → NetValue → ℕ → NetValue → ℕ → List Bool → Type 0
IsCaredFor metric exact bound N t x = bound < error_of metric (outputs_of exact x) (flipped_outputs N x t)

-- the error of the net at x exceeds the bound
abbrev pub Exceeds : Metric → NetValue → ℕ → NetValue → List Bool → Type 0
Exceeds metric exact bound N x = bound < net_error metric exact N x

-- the value at x that the move gives to its table
abbrev pub moved_value : NetValue → Move → List Bool → Bool
moved_value N move x = table_value (moved_table (table_at N.tables (table_of move)) move)
    (value_of (input_count N) N.tables x)

-- the move changes the value of its table at x
abbrev pub Changes : NetValue → Move → List Bool → Type 0
Changes N move x = moved_value N move x ≢ value_of (input_count N) N.tables x (input_count N + table_of move)

-- the moved net exceeds the bound at x
abbrev pub IsBrokenAt : Metric → NetValue → ℕ → NetValue → Move → List Bool → Type 0
IsBrokenAt metric exact bound N move x = Exceeds metric exact bound (moved N move) x
