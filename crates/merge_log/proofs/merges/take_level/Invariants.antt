use Rattle.std.proofs.Common.{◌-◌}
use Rattle.semantics.specs.Net.{input_count, table_count}
use Rattle.merge_log.specs.LevelLists.{IsFirstFrom}
use Rattle.merge_log.specs.Merging.{IsMerging}
use Rattle.merge_log.proofs.merges.take_level.Given as goal

abbrev pub invariant-along : goal.invariant-along
invariant-along l = IsFirstFrom (input_count l.placed) (table_count l.placed) l.lists.levels.items l.level l.t l.t × IsMerging l.placed l.lists.levels.items l.level l.t l.merging

abbrev pub decreases-along : goal.decreases-along
decreases-along l = table_count l.placed - l.t
