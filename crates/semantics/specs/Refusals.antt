-- What keeps parts from being a small sound net, in the order in which it is told. Source: this tool's own
-- reading of BLIF.
use Rattle.std.specs.Prelude.{ℕ, zero, suc, ◌+◌, ◌-◌, ◌<◌, ◌==◌, Bool, not, ◌||◌, ◌&&◌, nat_lt, nat_le, List}
use Rattle.std.specs.Prelude.{[], ◌∷◌, ◌++◌, flat_map, length, bytes_eq, position, Option, Some, None}
use Rattle.std.specs.Prelude.{if◌then◌else◌}
use Rattle.std.specs.List.{list_any, list_all, find, range_with_len}
use Rattle.semantics.specs.declared.which.Which.{Which}
use Rattle.semantics.specs.declared.which.Which.TheVariants as which
use Rattle.semantics.specs.declared.limits.TheConstants.{MOST_INPUTS, MOST_OUTPUTS, MOST_TABLES}
use Rattle.semantics.specs.declared.limits.TheConstants.{MOST_TABLE_PINS, MOST_PINS, MOST_ROWS}
use Rattle.semantics.specs.Texts.{Bytes}
use Rattle.semantics.specs.Net.{TableValue, NetValue, table_at, input_count, signal_count, signal_names}
use Rattle.semantics.specs.Net.{pin_count, row_count, IsGroundedIn}

abbrev pub has_name : List Bytes → Bytes → Bool
has_name names word = list_any (λ name. bytes_eq word name) names

abbrev pub first_doubled_after : List Bytes → List Bytes → Option Bytes
first_doubled_after earlier [] = None
first_doubled_after earlier (name ∷ names)
    = if has_name earlier name then Some name else first_doubled_after (earlier ++ name ∷ []) names

-- the first name that stands a second time
abbrev pub first_doubled : List Bytes → Option Bytes
first_doubled names = first_doubled_after [] names

-- what is read: the pins in table and pin order, and then the outputs
abbrev pub signals_read : NetValue → List ℕ
signals_read N = flat_map (λ t. t.pins) N.tables ++ N.outputs

-- the first signal that is read and is no signal of the net
abbrev pub first_undriven : NetValue → Option ℕ
first_undriven N = find (λ s. not (nat_lt s (signal_count N))) (signals_read N)

-- `IsGroundedIn` as a test
abbrev pub is_grounded_in : ℕ → List TableValue → ℕ → ℕ → Bool
is_grounded_in n tables zero s = nat_lt s n
is_grounded_in n tables (suc steps) s =
    nat_lt s n || (nat_lt s (n + length tables)
    && list_all (is_grounded_in n tables steps) (table_at tables (s - n)).pins)

abbrev pub is_ungrounded : ℕ → List TableValue → ℕ → Bool
is_ungrounded n tables i = not (is_grounded_in n tables (length tables) (n + i))

-- the first table that is not grounded (`IsFirstUngrounded`)
unfoldable pub first_ungrounded : ℕ → List TableValue → Option ℕ
first_ungrounded n tables = position (is_ungrounded n tables) (range_with_len 0 (length tables))

pub record IsFirstUngrounded (n : ℕ) (tables : List TableValue) (i : ℕ) : Type 0 where
  pub within : i < length tables
  pub ungrounded : ¬ IsGroundedIn n tables (length tables) (n + i)
  pub before : (j : ℕ) → j < i → IsGroundedIn n tables (length tables) (n + j)

-- the first limit that is passed
abbrev pub first_limit : NetValue → Option Which
first_limit N =
    if not (nat_le (length N.inputs) MOST_INPUTS) then Some which.Inputs
    else (if not (nat_le (length N.outputs) MOST_OUTPUTS) then Some which.Outputs
    else (if not (nat_le (length N.tables) MOST_TABLES) then Some which.Tables
    else (if not (list_all (λ t. nat_le (length t.pins) MOST_TABLE_PINS) N.tables) then Some which.Pins
    else (if not (nat_le (pin_count N) MOST_PINS) then Some which.AllPins
    else (if not (nat_le (row_count N) MOST_ROWS) then Some which.Rows
    else None)))))

pub data NetRefused : Type 0 where
  doubled : Bytes → NetRefused
  no_output : NetRefused
  undriven : (signal : ℕ) → NetRefused
  cycle : (signal : ℕ) → NetRefused
  limit : Which → NetRefused

-- the refusal where there is one, else what the rest says
abbrev pub or_else : {X R : Type 0} → Option X → (X → R) → Option R → Option R
or_else None refuse rest = rest
or_else (Some x) refuse rest = Some (refuse x)

-- the first refusal that holds of the parts
unfoldable pub net_refusal : NetValue → Option NetRefused
net_refusal N =
    or_else (first_doubled (signal_names N)) doubled
    (if length N.outputs == 0 then Some no_output
    else or_else (first_undriven N) undriven
    (or_else (first_ungrounded (input_count N) N.tables) (λ i. cycle (input_count N + i))
    (or_else (first_limit N) limit None)))
