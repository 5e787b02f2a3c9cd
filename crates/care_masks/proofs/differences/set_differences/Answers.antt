use Rattle.std.proofs.Common.{◌≡◌, [], ◌∙◌, arith}
use Rattle.std.proofs.lemmas.List.{get_or_default}
use Rattle.lane_nets.specs.Blocks.{row_at}
use Rattle.care_masks.proofs.Breaking.{changes_more, changes_all}
use Rattle.care_masks.proofs.differences.set_differences.Goals as goal

pub loop-k-preserved : goal.loop-k-preserved
loop-k-preserved c =
    let words : c.as_slice.result.now ≡ row_at c.args.blocks.now c.loop-k.k =
    c.as_slice.ensures ∙ c.index-blocks-k.is ∙ get_or_default c.args.blocks.now c.loop-k.k c.index-blocks-k.result [] c.loop-k-test.true in
    changes_more c.args.net.now c.args.a_move c.args.blocks.now c.args.count c.loop-k.k c.as_slice.result.now c.loop-k.row c.difference_word.result c.used_word.result c.loop-k-test.true words
    (omega (arith, c.requires.room, c.requires.count, c.loop-k.auto.row, c.loop-k-test.true)) c.difference_word.ensures.bits c.used_word.ensures c.loop-k.invariant

pub returns : goal.returns
returns c =
    changes_all c.args.net.now c.args.a_move c.args.blocks.now c.args.count c.loop-k.k c.loop-k.row (c.loop-k.auto.row ∙ c.requires.room) c.requires.count c.loop-k-test.false c.loop-k.invariant
