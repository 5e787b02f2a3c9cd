-- Which refusal of parts is told, and what stands before it: names, outputs, signals, cycles, and then the
-- limits one by one. Source: this tool's own reading of BLIF.
use Rattle.std.specs.Prelude.{◌≡◌, ◌≢◌, ℕ, ◌+◌, ◌<◌, ◌≤◌, List, [], ◌∷◌, ◌++◌, length, All, AllPairs}
use Rattle.std.specs.Prelude.{Contains}
use Rattle.semantics.specs.declared.which.Which.{Which}
use Rattle.semantics.specs.declared.which.Which.TheVariants.{Inputs, Outputs, Tables, Pins, AllPins, Rows}
use Rattle.semantics.specs.declared.limits.TheConstants.{MOST_INPUTS, MOST_OUTPUTS, MOST_TABLES}
use Rattle.semantics.specs.declared.limits.TheConstants.{MOST_TABLE_PINS, MOST_PINS, MOST_ROWS}
use Rattle.semantics.specs.Texts.{Bytes}
use Rattle.semantics.specs.Net.{NetValue, input_count, signal_count, signal_names, pin_count, row_count}
use Rattle.semantics.specs.Net.{IsAcyclic}
use Rattle.semantics.specs.Refusals.{NetRefused, doubled, no_output, undriven, cycle, limit, signals_read}
use Rattle.semantics.specs.Refusals.{IsFirstUngrounded}

-- the net keeps the limit
abbrev pub IsKept : NetValue → Which → Type 0
IsKept N Inputs = length N.inputs ≤ MOST_INPUTS
IsKept N Outputs = length N.outputs ≤ MOST_OUTPUTS
IsKept N Tables = length N.tables ≤ MOST_TABLES
IsKept N Pins = All (λ t. length t.pins ≤ MOST_TABLE_PINS) N.tables
IsKept N AllPins = pin_count N ≤ MOST_PINS
IsKept N Rows = row_count N ≤ MOST_ROWS

-- the order of the limits
abbrev pub limit_place : Which → ℕ
limit_place Inputs = 0
limit_place Outputs = 1
limit_place Tables = 2
limit_place Pins = 3
limit_place AllPins = 4
limit_place Rows = 5

pub record IsFirstPassed (N : NetValue) (passed : Which) : Type 0 where
  pub over : ¬ IsKept N passed
  pub before : (other : Which) → limit_place other < limit_place passed → IsKept N other

-- the names before `name` differ from each other, and `name` is one of them
pub record IsFirstDoubled (names : List Bytes) (name : Bytes) : Type 0 where
  pub before : List Bytes
  pub after : List Bytes
  pub split : names ≡ before ++ name ∷ after
  pub differ : AllPairs ◌≢◌ before
  pub again : Contains before name

-- what is read before s are signals, and s is none
pub record IsFirstUndriven (N : NetValue) (s : ℕ) : Type 0 where
  pub before : List ℕ
  pub after : List ℕ
  pub split : signals_read N ≡ before ++ s ∷ after
  pub driven : All (λ r. r < signal_count N) before
  pub no_signal : ¬ s < signal_count N

-- each pin and each output is a signal
pub record IsDriven (N : NetValue) : Type 0 where
  pub pins : All (λ t. All (λ s. s < signal_count N) t.pins) N.tables
  pub outputs : All (λ s. s < signal_count N) N.outputs

-- the refusal holds, and no refusal before it in the order holds
abbrev pub IsTold : NetValue → NetRefused → Type 0
IsTold N (doubled name) = IsFirstDoubled (signal_names N) name
IsTold N no_output = AllPairs ◌≢◌ (signal_names N) × (N.outputs ≡ [])
IsTold N (undriven s) = AllPairs ◌≢◌ (signal_names N) × (0 < length N.outputs) × IsFirstUndriven N s
IsTold N (cycle s) =
    AllPairs ◌≢◌ (signal_names N) × (0 < length N.outputs) × IsDriven N
    × ((i : ℕ) × (s ≡ input_count N + i) × IsFirstUngrounded (input_count N) N.tables i)
IsTold N (limit passed) =
    AllPairs ◌≢◌ (signal_names N) × (0 < length N.outputs) × IsDriven N × IsAcyclic (input_count N) N.tables
    × IsFirstPassed N passed
