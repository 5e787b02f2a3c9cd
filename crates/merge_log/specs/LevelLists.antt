-- The tables of each level in their order, by the first table of each level and, for each table, the next
-- table of its level.
use Rattle.std.specs.Prelude.{◌≡◌, ◌≢◌, ℕ, ◌+◌, ◌<◌, ◌≤◌, List, length, slice_index_or}
use Rattle.semantics.specs.Net.{NetValue, input_count, table_count}
use Rattle.merge_log.specs.Levels.{AreLevels}
use Rattle.merge_log.specs.declared.level_lists.LevelLists.{LevelLists}

-- Of the tables from `from` on, behind n inputs, `first` is the first of this level; where none has it,
-- `first` is their number.
pub record IsFirstFrom (n count : ℕ) (levels : List ℕ) (level from first : ℕ) : Type 0 where
  pub since : from ≤ first
  pub within : first ≤ count
  pub level_is : first < count → slice_index_or levels (n + first) 0 ≡ level
  pub others : (t : ℕ) → from ≤ t → t < first → slice_index_or levels (n + t) 0 ≢ level

-- the level of each signal, the first table of each level, and for each table the next table of its level
pub record LevelListsValue : Type 0 where
  pub levels : List ℕ
  pub firsts : List ℕ
  pub nexts : List ℕ

abbrev pub level_lists_value : LevelLists → LevelListsValue
level_lists_value lists = record {
  levels = lists.levels.items;
  firsts = lists.firsts.items;
  nexts = lists.nexts.items;
}

-- the lists are those of the tables from `from` on, behind n inputs
pub record AreLevelLists (n count : ℕ) (lists : LevelListsValue) (from : ℕ) : Type 0 where
  pub within : from ≤ count
  pub nexts_count : length lists.nexts ≡ count
  pub firsts_are : (level : ℕ) → level < length lists.firsts
      → IsFirstFrom n count lists.levels level from (slice_index_or lists.firsts level 0)
  pub nexts_are : (t : ℕ) → from ≤ t → t < count
      → IsFirstFrom n count lists.levels (slice_index_or lists.levels (n + t) 0) (t + 1)
      (slice_index_or lists.nexts t 0)

-- the level of each signal of a net, and the lists of the tables of each level
pub record AreListsOf (N : NetValue) (lists : LevelLists) : Type 0 where
  pub levels_are : AreLevels (input_count N) N.tables lists.levels.items
  pub deepest : (s : ℕ) → slice_index_or lists.levels.items s 0 < length lists.firsts.items
  pub lists_are : AreLevelLists (input_count N) (table_count N) (level_lists_value lists) 0
