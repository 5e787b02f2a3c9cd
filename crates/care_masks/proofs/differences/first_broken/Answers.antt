use Rattle.std.proofs.Common.{◌≡◌, [], refl, ◌∙◌, arith}
use Rattle.std.proofs.lemmas.List.{get_or_default}
use Rattle.chain_semantics.specs.MoveLaws.{IsMoveOf}
use Rattle.chain_semantics.proofs.MoveMembers.{move_is}
use Rattle.lane_nets.specs.Blocks.{row_at}
use Rattle.care_masks.proofs.Breaking.{broken_bit, broken_first, broken_none}
use Rattle.care_masks.proofs.differences.first_broken.Goals as goal

pub returns-in-Some : goal.returns-in-Some
returns-in-Some c =
    let N = c.args.net.now in
    let sound = c.see_sound.ensures.sound in
    let is : IsMoveOf c.args.net.now c.args.a_move = move_is c.args.net.now sound.acyclic c.args.a_move c.requires.offered in
    let words : c.as_slice.result.now ≡ row_at c.args.blocks.now c.loop-k.k =
    c.as_slice.ensures ∙ c.index-blocks-k.is ∙ get_or_default c.args.blocks.now c.loop-k.k c.index-blocks-k.result [] c.loop-k-test.true in
    λ metric exact bound vectors are cared exceeded. broken_first metric exact N bound c.args.a_move vectors c.loop-k.k _ c.in-Some.b _ refl
    (broken_bit metric exact N bound c.args.a_move sound is vectors c.args.blocks.now c.args.care.now c.args.exceeds.now are cared exceeded c.loop-k.k c.known_broken_word-broken.result
    c.as_slice.result.now c.loop-k-test.true words c.known_broken_word-broken.ensures)
    c.in-Some.ensures (c.loop-k.invariant metric exact bound vectors are cared exceeded)

pub loop-k-preserved : goal.loop-k-preserved
loop-k-preserved c =
    let N = c.args.net.now in
    let sound = c.see_sound.ensures.sound in
    let is : IsMoveOf c.args.net.now c.args.a_move = move_is c.args.net.now sound.acyclic c.args.a_move c.requires.offered in
    let words : c.as_slice.result.now ≡ row_at c.args.blocks.now c.loop-k.k =
    c.as_slice.ensures ∙ c.index-blocks-k.is ∙ get_or_default c.args.blocks.now c.loop-k.k c.index-blocks-k.result [] c.loop-k-test.true in
    λ metric exact bound vectors are cared exceeded. broken_none metric exact N bound c.args.a_move vectors c.loop-k.k _
    (broken_bit metric exact N bound c.args.a_move sound is vectors c.args.blocks.now c.args.care.now c.args.exceeds.now are cared exceeded c.loop-k.k c.known_broken_word-broken.result
    c.as_slice.result.now c.loop-k-test.true words c.known_broken_word-broken.ensures)
    c.in_default.ensures (c.loop-k.invariant metric exact bound vectors are cared exceeded)

pub returns : goal.returns
returns c =
    λ metric exact bound vectors are cared exceeded p low. c.loop-k.invariant metric exact bound vectors are cared exceeded p (omega (arith, low, are.count, c.loop-k-test.false)) low
