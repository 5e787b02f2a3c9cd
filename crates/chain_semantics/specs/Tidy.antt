-- Tidying: a step is made at the first table at which a rule applies, by the first rule that applies there.
-- So the step is a function of the net. Source: this tool's own.
use Rattle.std.specs.Prelude.{◌≡◌, ℕ, zero, suc, ◌+◌, Bool, if◌then◌else◌, Option, Some, None, List, [], ◌∷◌}
use Rattle.std.specs.Option.{option_map}
use Rattle.semantics.specs.Net.{TableValue, NetValue, table_at, input_count, table_count}
use Rattle.semantics.specs.Replaced.{with_table}
use Rattle.chain_semantics.specs.TidyRules.{pin_at, constant_pin, constant_value, with_pin_fixed, dashed_pin}
use Rattle.chain_semantics.specs.TidyRules.{without_pin, repeated_pin, first_place_of, with_pins_joined}
use Rattle.chain_semantics.specs.TidyRules.{is_constant, made_canonical, is_bypassed, with_bypass, is_unread}
use Rattle.chain_semantics.specs.TidyRules.{without_table}

abbrev pub some_if : {X : Type 0} → Bool → X → Option X
some_if test x = if test then Some x else None

-- the table that a rule on one table puts in the place of t
abbrev pub by_constant_pin : ℕ → List TableValue → TableValue → Option TableValue
by_constant_pin n tables t
    = option_map (λ q. with_pin_fixed q (constant_value n tables (pin_at t q)) t) (constant_pin n tables t)

abbrev pub by_dashed_pin : TableValue → Option TableValue
by_dashed_pin t = option_map (λ q. without_pin q t) (dashed_pin t)

abbrev pub by_repeated_pin : TableValue → Option TableValue
by_repeated_pin t = option_map (λ q. with_pins_joined (first_place_of t.pins (pin_at t q)) q t)
    (repeated_pin t)

abbrev pub by_constant : TableValue → Option TableValue
by_constant t = some_if (is_constant t) (made_canonical t)

-- the net that a rule on more than one table makes
abbrev pub by_bypass : NetValue → ℕ → Option NetValue
by_bypass N i = some_if (is_bypassed N i) (with_bypass N i)

abbrev pub by_removal : NetValue → ℕ → Option NetValue
by_removal N i = some_if (is_unread N i) (without_table N i)

abbrev pub first_some : {X : Type 0} → List (Option X) → Option X
first_some [] = None
first_some (None ∷ rest) = first_some rest
first_some (Some x ∷ rest) = Some x

-- what the first rule that applies at table i makes of the net
abbrev pub step_at : NetValue → ℕ → Option NetValue
step_at N i = first_some (
    option_map (with_table N i) (by_constant_pin (input_count N) N.tables (table_at N.tables i))
    ∷ option_map (with_table N i) (by_dashed_pin (table_at N.tables i))
    ∷ option_map (with_table N i) (by_repeated_pin (table_at N.tables i))
    ∷ option_map (with_table N i) (by_constant (table_at N.tables i))
    ∷ by_bypass N i
    ∷ by_removal N i
    ∷ [])

-- the step at the first of `count` tables from table `start` on at which a rule applies
abbrev pub step_from : NetValue → ℕ → ℕ → Option NetValue
step_from N start zero = None
step_from N start (suc count) = first_some (step_at N start ∷ step_from N (start + 1) count ∷ [])

unfoldable pub tidy_step : NetValue → Option NetValue
tidy_step N = step_from N 0 (table_count N)

-- M comes from N by steps
pub data IsReachedFrom (N : NetValue) : NetValue → Type 0 where
  start : IsReachedFrom N N
  next : {K M : NetValue} → IsReachedFrom N K → tidy_step K ≡ Some M → IsReachedFrom N M

-- no rule applies at any table
abbrev pub IsTidy : NetValue → Type 0
IsTidy N = tidy_step N ≡ None

-- M comes from N by steps, and no step is left
pub record IsTidiedFrom (N M : NetValue) : Type 0 where
  pub reached : IsReachedFrom N M
  pub tidy : IsTidy M
