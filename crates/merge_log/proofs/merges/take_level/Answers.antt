use Rattle.std.proofs.Common.{ap, ◌≡◌, ◌+◌, ◌<◌, subst, sym, ◌∙◌, get_or, arith}
use Rattle.std.proofs.lemmas.List.{get_or_default}
use Rattle.semantics.specs.Net.{input_count, table_count}
use Rattle.merge_log.specs.LevelLists.{IsFirstFrom}
use Rattle.merge_log.proofs.Ends.{merging_level}
use Rattle.merge_log.proofs.LevelChains.{chain_next}
use Rattle.merge_log.proofs.merges.take_level.Goals as goal

pub along-init : goal.along-init
along-init c =
    let is : c.index-t.result.now ≡ get_or c.args.lists.now.firsts.items c.args.level 0 =
    c.index-t.ensures ∙ get_or_default c.args.lists.now.firsts.items c.args.level c.index-t.result.now 0 c.requires.level in
    let first = subst (IsFirstFrom (input_count c.args.placed.now) (table_count c.args.placed.now) c.args.lists.now.levels.items c.args.level 0) (sym is)
    (c.requires.lists.lists_are.firsts_are c.args.level c.requires.level) in
    chain_next c.args.placed.now c.args.lists.now.levels.items c.args.level 0 c.index-t.result.now c.args.merging.now first c.requires.merging

pub along-preserved : goal.along-preserved
along-preserved c =
    let low : c.along.t < table_count c.args.placed.now = omega (arith, c.along-test.true, c.tables.ensures.value, ap table_count c.net.ensures.value) in
    let here = c.along.invariant.0.level_is low in
    let is : c.index-t-in-along.result.now ≡ get_or c.args.lists.now.nexts.items c.along.t 0 =
    c.index-t-in-along.ensures ∙ get_or_default c.args.lists.now.nexts.items c.along.t c.index-t-in-along.result.now 0 (omega (arith, low, c.requires.lists.lists_are.nexts_count)) in
    let next = subst (λ level. IsFirstFrom (input_count c.args.placed.now) (table_count c.args.placed.now) c.args.lists.now.levels.items level (c.along.t + 1) c.index-t-in-along.result.now) here
    (subst (IsFirstFrom (input_count c.args.placed.now) (table_count c.args.placed.now) c.args.lists.now.levels.items _ (c.along.t + 1)) (sym is)
    (c.requires.lists.lists_are.nexts_are c.along.t (omega arith) low)) in
    chain_next c.args.placed.now c.args.lists.now.levels.items c.args.level (c.along.t + 1) c.index-t-in-along.result.now c.take_table.new.merging next
    (c.in_ok-take_table.ensures c.args.lists.now.levels.items c.args.level c.requires.lists.levels_are here c.along.invariant.1)

pub returns : goal.returns
returns c =
    merging_level c.args.placed.now c.args.lists.now.levels.items c.args.level c.along.t c.along.merging c.requires.lists.levels_are (omega (
      arith,
      c.along-test.false,
      c.tables.ensures.value,
      ap
          table_count c.net.ensures.value,
    )) c.along.invariant.1
