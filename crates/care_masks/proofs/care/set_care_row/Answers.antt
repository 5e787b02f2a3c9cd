use Rattle.std.proofs.Common.{◌≡◌, [], ◌∙◌, arith}
use Rattle.std.proofs.lemmas.List.{get_or_default}
use Rattle.chain_semantics.specs.Care.{IsCaredFor}
use Rattle.lane_nets.specs.Blocks.{row_at}
use Rattle.care_masks.proofs.CareBits.{cared_more, row_all, tells_over}
use Rattle.care_masks.proofs.care.set_care_row.Goals as goal

pub loop-k-preserved : goal.loop-k-preserved
loop-k-preserved c =
    let old : c.copy_from_slice.new.self ≡ row_at c.args.blocks.now c.loop-k.k =
    c.copy_from_slice.ensures.after ∙ c.as_slice.ensures ∙ c.index-blocks-k.is ∙ get_or_default c.args.blocks.now c.loop-k.k c.index-blocks-k.result [] c.loop-k-test.true in
    let exact : c.as_slice-exact.result.now ≡ row_at c.args.limit.now.outputs c.loop-k.k =
    c.as_slice-exact.ensures ∙ c.get.ensures ∙ get_or_default c.args.limit.now.outputs c.loop-k.k c.get.result.now [] (omega (arith, c.requires.same, c.loop-k-test.true)) in
    cared_more c.args.limit.now.metric c.args.net.now c.args.limit.now.level c.args.limit.now.count c.args.limit.now.outputs c.args.blocks.now c.see_sound.ensures.sound c.requires.same
    c.args.turned.now.table c.loop-k.row c.copy_from_slice.new.self c.flip_words.new.words c.loop-k.k c.over_bound.result c.loop-k-test.true
    (omega (arith, c.requires.row, c.loop-k.auto.row, c.loop-k-test.true)) old c.flip_words.ensures
    (tells_over c.args.limit.now.metric c.args.net.now c.args.limit.now.level c.args.limit.now.count c.loop-k.k c.args.limit.now.outputs c.flip_words.new.words c.as_slice-exact.result.now
    c.over_bound.result c.used_word-used.result exact c.over_bound.ensures c.used_word-used.ensures) c.loop-k.invariant

pub returns : goal.returns
returns c =
    row_all c.args.net.now c.args.limit.now.count c.args.limit.now.outputs c.args.blocks.now
    (λ exact. IsCaredFor c.args.limit.now.metric exact c.args.limit.now.level c.args.net.now c.args.turned.now.table) c.loop-k.row
    c.loop-k.k (c.loop-k.auto.row ∙ c.requires.row) c.loop-k-test.false c.loop-k.invariant
