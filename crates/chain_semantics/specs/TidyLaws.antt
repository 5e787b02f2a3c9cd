-- The laws about tidying, each the contract of a function without parameters.
use Rattle.std.specs.Prelude.{◌≡◌, ◌⊎◌, ◌↔◌, ℕ, ◌<◌, ◌≤◌, Bool, true, Some, None, List, length, All, Any}
use Rattle.semantics.specs.Net.{TableValue, NetValue, input_count, table_count, literal_count, pin_count}
use Rattle.semantics.specs.Net.{row_count, is_literal, row_literals, IsSound, IsSmall, HasSamePorts}
use Rattle.semantics.specs.Value.{outputs_of}
use Rattle.chain_semantics.specs.TidyRules.{mark_at, is_canonical}
use Rattle.chain_semantics.specs.Tidy.{step_at, tidy_step, IsTidy, IsTidiedFrom}
use Rattle.chain_semantics.specs.TidyLevels.{AreLevels, level_of, triple_of, IsBelow}

-- a sound net of the same model, with the same input names, output names and outputs at every input vector
pub record KeepsNet (N M : NetValue) : Type 0 where
  pub sound : IsSound M
  pub model : M.model ≡ N.model
  pub ports : HasSamePorts N M
  pub values : (x : List Bool) → outputs_of N x ≡ outputs_of M x

-- no more tables, literals, rows or pins, also of the widest table
pub record DoesNotGrow (N M : NetValue) : Type 0 where
  pub tables : table_count M ≤ table_count N
  pub literals : literal_count M ≤ literal_count N
  pub rows : row_count M ≤ row_count N
  pub pins : pin_count M ≤ pin_count N
  pub table_pins : (most : ℕ) → All (λ t. length t.pins ≤ most) N.tables
      → All (λ t. length t.pins ≤ most) M.tables

-- the first table at which a rule applies
pub record IsFirstStep (N M : NetValue) : Type 0 where
  pub table : ℕ
  pub within : table < table_count N
  pub step : step_at N table ≡ Some M
  pub first : (i : ℕ) → i < table → step_at N i ≡ None

-- each row has a literal, and each pin has a literal in some row
pub record HasLiterals (t : TableValue) : Type 0 where
  pub rows : All (λ marks. 0 < row_literals marks) t.rows
  pub pins : (q : ℕ) → q < length t.pins → Any (λ marks. is_literal (mark_at marks q) ≡ true) t.rows

-- what a step keeps and lowers, where a step is made, and where no step is left
pub record StepLaw : Type 0 where
  pub keeps : (N M : NetValue) → IsSound N → tidy_step N ≡ Some M → KeepsNet N M
  pub does_not_grow : (N M : NetValue) → IsSound N → tidy_step N ≡ Some M → DoesNotGrow N M
  pub falls : (N M : NetValue) → IsSound N → tidy_step N ≡ Some M → IsBelow (triple_of M) (triple_of N)
  pub levels : (N : NetValue) → IsSound N
      → AreLevels (input_count N) N.tables (level_of (input_count N) N.tables)
  pub first : (N M : NetValue) → tidy_step N ≡ Some M → IsFirstStep N M
  pub none : (N : NetValue) → IsTidy N ↔ ((i : ℕ) → i < table_count N → step_at N i ≡ None)

-- Each sound net is tidied to exactly one net: to itself where no rule applies, and else to what the net
-- after its first step is tidied to. The law says what that net keeps, and what its tables are: each is a
-- canonical constant, or each of its rows and each of its pins has a literal.
pub record TidyLaw : Type 0 where
  pub exists : (N : NetValue) → IsSound N → (M : NetValue) × IsTidiedFrom N M
  pub unique : (N M K : NetValue) → IsTidiedFrom N M → IsTidiedFrom N K → M ≡ K
  pub stops : (N : NetValue) → IsTidy N → IsTidiedFrom N N
  pub goes_on : (N K M : NetValue) → tidy_step N ≡ Some K → IsTidiedFrom N M ↔ IsTidiedFrom K M
  pub keeps : (N M : NetValue) → IsSound N → IsTidiedFrom N M → KeepsNet N M
  pub does_not_grow : (N M : NetValue) → IsSound N → IsTidiedFrom N M → DoesNotGrow N M
  pub small : (N M : NetValue) → IsSound N → IsSmall N → IsTidiedFrom N M → IsSmall M
  pub literals : (N : NetValue) → IsTidy N → All (λ t. (is_canonical t ≡ true) ⊎ HasLiterals t) N.tables
