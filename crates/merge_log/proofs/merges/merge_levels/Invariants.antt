use Rattle.merge_log.specs.Merging.{IsMerging}
use Rattle.merge_log.proofs.merges.merge_levels.Given as goal

-- the tables of the lower levels are taken
abbrev pub invariant-loop-level : goal.invariant-loop-level
invariant-loop-level l = IsMerging l.placed l.lists.levels.items l.level 0 l.merging
