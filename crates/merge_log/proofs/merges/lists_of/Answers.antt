use Rattle.std.proofs.Common.{subst, sym}
use Rattle.semantics.specs.Net.{input_count}
use Rattle.merge_log.specs.Levels.{AreLevels}
use Rattle.merge_log.proofs.merges.lists_of.Goals as goal

pub level_lists-requires : goal.level_lists-requires
level_lists-requires c = c.in_ok-levels.ensures.count

pub returns : goal.returns
returns c = record {
  levels_are = subst (AreLevels (input_count c.args.net.now) c.args.net.now.tables) (sym c.in_ok-lists.ensures.levels) c.in_ok-levels.ensures.levels;
  deepest = c.in_ok-lists.ensures.deepest;
  lists_are = c.in_ok-lists.ensures.lists;
}
