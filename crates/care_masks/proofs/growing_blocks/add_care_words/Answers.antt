use Rattle.std.proofs.Common.{ℕ, ◌<◌, List, Bool, length, ap, sym, subst, ◌∙◌, arith}
use Rattle.std.proofs.lemmas.List.{length_push}
use Rattle.semantics.specs.Net.{NetValue, IsSound}
use Rattle.lane_nets.specs.Words.{HasValues}
use Rattle.lane_nets.specs.Blocks.{IsBlock}
use Rattle.lane_nets.specs.Lanes.{IsOutputBlock}
use Rattle.care_masks.specs.Flips.{HasFlippedValues}
use Rattle.care_masks.proofs.CareBits.{TellsOverUsed}
use Rattle.care_masks.proofs.GrownBlocks.{cared_told, care_more}
use Rattle.care_masks.proofs.growing_blocks.add_care_words.Goals as goal

pub loop-k-preserved : goal.loop-k-preserved
loop-k-preserved c =
    let j = c.args.known.now.judged.now in
    let k : ℕ = c.loop-k.k in
    let low : k < length c.args.known.now.blocks.now = omega (arith, c.loop-k-test.true, c.requires.within) in
    let sound = subst IsSound c.approx-net.ensures.value c.see_sound.ensures.sound in
    let flipped = subst (λ (N : NetValue). (b : ℕ) (x : List Bool) → b < 64 → HasValues N c.copy_from_slice.new.self b x → HasFlippedValues N c.args.turned.now.table c.flip_words.new.words b x)
    c.approx-net.ensures.value c.flip_words.ensures in
    let over = subst (λ (N : NetValue). TellsOverUsed j.metric N j.bound c.flip_words.new.words c.as_slice-outputs.result.now c.used_word-used.result c.over_bound-cared.result)
    c.approx-net.ensures.value c.over_bound-cared.ensures in (
      omega (arith, ap length c.in_ok-push.ensures.ok, length_push c.loop-k.row c.over_bound-cared.result, c.loop-k.invariant.0),
      λ vectors long are before.
          let block = are k c.index-blocks-k.result low in
          let again = are k c.index-blocks-k-in-loop-k.result low in
          rw c.in_ok-push.ensures.ok
          (care_more j vectors c.args.turned.now.table c.loop-k.row k c.over_bound-cared.result c.loop-k.invariant.0
          (cared_told j.metric j.nets.exact j.nets.approx j.bound k c.args.known.now.count vectors c.flip_words.new.words c.as_slice-outputs.result.now c.over_bound-cared.result c.used_word-used.result long
          (subst (IsOutputBlock j.nets.exact vectors k) (sym c.as_slice-outputs.ensures) again.outputs) c.used_word-used.ensures over c.args.turned.now.table c.copy_from_slice.new.self sound
          (subst (IsBlock j.nets.approx vectors k) (sym (c.copy_from_slice.ensures.after ∙ c.as_slice.ensures)) block.values) flipped)
          (c.loop-k.invariant.1 vectors long are before)),
    )
