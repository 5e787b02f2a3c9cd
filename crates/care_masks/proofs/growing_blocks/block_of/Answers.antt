use Rattle.std.proofs.Common.{ℕ, List, sym, subst}
use Rattle.semantics.specs.Net.{NetValue, IsSound}
use Rattle.lane_nets.specs.Blocks.{IsBlock}
use Rattle.lane_nets.specs.Lanes.{IsOutputBlock}
use Rattle.care_masks.specs.Overlaps.{AreOverlapsOf}
use Rattle.care_masks.proofs.CareBits.{TellsOverUsed}
use Rattle.care_masks.proofs.GrownBlocks.{exceeding_told}
use Rattle.care_masks.proofs.growing_blocks.block_of.Goals as goal

pub returns : goal.returns
returns c =
    let j = c.args.judged.now in
    let vectors = c.args.patterns.now.vectors in
    let values = subst (λ (N : NetValue). IsBlock N c.args.patterns.now.vectors c.args.k c.in_ok-words.words) c.approx-net.ensures.value c.in_ok-words.ensures in
    let outputs = subst (λ (N : NetValue). IsOutputBlock N c.args.patterns.now.vectors c.args.k c.in_ok-outputs.outputs) c.exact.ensures.value c.in_ok-outputs.ensures in
    let sound = subst IsSound c.approx-net.ensures.value c.see_sound.ensures.sound in
    let over = subst (λ (N : NetValue). TellsOverUsed j.metric N j.bound c.as_slice.result.now c.as_slice-2.result.now c.used_word-used.result c.over_bound-exceeds.result)
    c.approx-net.ensures.value c.over_bound-exceeds.ensures in
    let overlaps = subst (λ (N : NetValue). AreOverlapsOf N c.in_ok-words.words c.in_ok-overlaps.overlaps) c.approx-net.ensures.value
    (subst (λ (w : List ℕ). AreOverlapsOf c.approx-net.result.now w c.in_ok-overlaps.overlaps) c.as_slice-3.ensures c.in_ok-overlaps.ensures) in
    record {
      values = values;
      outputs = outputs;
      exceeds =
          exceeding_told j.metric j.nets.exact j.nets.approx j.bound c.args.k c.count.result vectors c.in_ok-words.words c.in_ok-outputs.outputs c.over_bound-exceeds.result
          c.used_word-used.result (sym c.count.ensures.value) outputs c.used_word-used.ensures
          (rw (← c.as_slice.ensures, ← c.as_slice-2.ensures) over) sound values;
      overlaps = overlaps;
    }
