use Rattle.std.proofs.Common.{ℕ, ◌<◌, get_or, ap, sym, subst, arith}
use Rattle.proof_semantics.specs.Merges.{IsMergeLog}
use Rattle.merge_log.specs.Merging.{MergingValue}
use Rattle.merge_log.proofs.LevelChains.{merging_all}
use Rattle.merge_log.proofs.merges.merge_levels.Goals as goal

pub loop-level-init : goal.loop-level-init
loop-level-init c = c.in_ok-merging.ensures c.args.lists.now.levels.items c.requires.levels_are

pub take_level-requires : goal.take_level-requires
take_level-requires c = record {
  lists = c.requires;
  level = omega (arith, c.loop-level-test.true, c.len-level-end.ensures);
  merging = c.loop-level.invariant;
}

pub returns : goal.returns
returns c =
    let below : (s : ℕ) → get_or c.args.lists.now.levels.items s 0 < c.loop-level.level = λ s.
    omega (arith, c.requires.deepest s, c.len-level-end.ensures, c.loop-level-test.false) in
    subst (IsMergeLog c.args.placed.now) (sym (ap (λ (g : MergingValue). g.log) c.merging-2.view_is))
    (merging_all c.args.placed.now c.args.lists.now.levels.items c.loop-level.level c.loop-level.merging below c.loop-level.invariant)
