-- A table whose flag is down has no rule that applies.
use Rattle.std.specs.Prelude.{◌≡◌, ◌≢◌, ℕ, ◌+◌, ◌<◌, Bool, true, false, None, Some, List, length}
use Rattle.std.specs.Prelude.{slice_index_or}
use Rattle.semantics.specs.Net.{TableValue, NetValue, table_at, table_count}
use Rattle.chain_semantics.specs.TidyRules.{is_empty, has}
use Rattle.net_tidy.specs.declared.rule.Rule.{Rule}
use Rattle.net_tidy.specs.Rule.{rule_at}

abbrev pub IsDown : List Bool → ℕ → Type 0
IsDown flags i = slice_index_or flags i true ≡ false

-- one flag for each table
pub record IsFlagged (N : NetValue) (flags : List Bool) : Type 0 where
  pub count : length flags ≡ table_count N
  pub rests : (i : ℕ) → i < table_count N → IsDown flags i → rule_at N i ≡ None

-- table j, untouched by the edit of table t: its flag was down, and where table t has no pins, table j does
-- not read table t
pub record IsLeft (n : ℕ) (tables : List TableValue) (t : ℕ) (flags : List Bool) (j : ℕ) : Type 0 where
  pub down : IsDown flags j
  pub other : j ≢ t
  pub unseen : is_empty (table_at tables t).pins ≡ true → has (table_at tables j).pins (n + t) ≡ false

-- the rule at the first table at which one applies
pub record IsFirstRule (N : NetValue) (i : ℕ) (rule : Rule) : Type 0 where
  pub within : i < table_count N
  pub is : rule_at N i ≡ Some rule
  pub first : (j : ℕ) → j < i → rule_at N j ≡ None
