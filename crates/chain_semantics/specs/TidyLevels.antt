-- Levels of signals, and three numbers of a net that fall in dictionary order at each step of tidying.
-- Source: this tool's own.
use Rattle.std.specs.Prelude.{◌≡◌, ◌⊎◌, ℕ, zero, suc, ◌+◌, ◌-◌, ◌<◌, max, Bool, not, ◌&&◌, if◌then◌else◌}
use Rattle.std.specs.Prelude.{nat_lt, List, [], ◌∷◌, length, sum_by, count_by}
use Rattle.semantics.specs.Net.{TableValue, NetValue, table_at, input_count, table_count, pin_count}
use Rattle.chain_semantics.specs.TidyRules.{is_empty, is_canonical}

abbrev pub greatest : (ℕ → ℕ) → List ℕ → ℕ
greatest f [] = 0
greatest f (s ∷ pins) = max (f s) (greatest f pins)

-- 0 at an input, and at a table 1 plus the greatest among its pins
pub record AreLevels (n : ℕ) (tables : List TableValue) (level : ℕ → ℕ) : Type 0 where
  pub input : (s : ℕ) → s < n → level s ≡ 0
  pub table : (i : ℕ) → i < length tables → level (n + i) ≡ 1 + greatest level (table_at tables i).pins

-- Levels by rounds, as the values are found. After one round more than there are tables, the levels of
-- acyclic tables no longer change.
abbrev pub level_round : ℕ → List TableValue → (ℕ → ℕ) → ℕ → ℕ
level_round n tables level s = if nat_lt s n then 0 else 1 + greatest level (table_at tables (s - n)).pins

unfoldable pub after_level_rounds : ℕ → List TableValue → ℕ → ℕ → ℕ
after_level_rounds n tables zero = λ _. 0
after_level_rounds n tables (suc rounds) = level_round n tables (after_level_rounds n tables rounds)

unfoldable pub level_of : ℕ → List TableValue → ℕ → ℕ
level_of n tables = after_level_rounds n tables (suc (length tables))

-- the sum over all pins of the level of the signal read
abbrev pub pin_levels : (ℕ → ℕ) → List TableValue → ℕ
pin_levels level tables = sum_by (λ t. sum_by level t.pins) tables

-- a table without pins that is no canonical constant
abbrev pub is_bare : TableValue → Bool
is_bare t = is_empty t.pins && not (is_canonical t)

pub record Triple : Type 0 where
  pub size : ℕ
  pub levels : ℕ
  pub bare : ℕ

abbrev pub triple_of : NetValue → Triple
triple_of N = record {
  size = table_count N + pin_count N;
  levels = pin_levels (level_of (input_count N) N.tables) N.tables;
  bare = count_by is_bare N.tables;
}

-- in dictionary order
abbrev pub IsBelow : Triple → Triple → Type 0
IsBelow a b = (a.size < b.size)
    ⊎ ((a.size ≡ b.size) × ((a.levels < b.levels) ⊎ ((a.levels ≡ b.levels) × (a.bare < b.bare))))
