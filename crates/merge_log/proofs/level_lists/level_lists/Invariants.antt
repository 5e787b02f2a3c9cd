use Rattle.std.proofs.Common.{ℕ, ◌<◌, length, get_or}
use Rattle.semantics.specs.Net.{input_count, table_count}
use Rattle.merge_log.specs.LevelLists.{AreLevelLists}
use Rattle.merge_log.proofs.level_lists.level_lists.Given as goal

abbrev pub invariant-down : goal.invariant-down
invariant-down l = ((s : ℕ) → get_or l.levels.items s 0 < length l.firsts.items) × AreLevelLists (input_count l.net) (table_count l.net) (record {
  levels = l.levels.items;
  firsts = l.firsts.items;
  nexts = l.nexts.items;
}) l.t

abbrev pub decreases-down : goal.decreases-down
decreases-down l = l.t
