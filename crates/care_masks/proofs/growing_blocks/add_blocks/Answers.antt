use Rattle.std.proofs.Common.{arith}
use Rattle.std.proofs.lemmas.List.{length_push}
use Rattle.care_masks.proofs.GrownBlocks.{blocks_more}
use Rattle.care_masks.proofs.growing_blocks.add_blocks.Goals as goal

pub loop-k-preserved : goal.loop-k-preserved
loop-k-preserved c =
    rw c.in_ok-push.ensures.items (
      omega (arith, length_push c.loop-k.blocks.items c.in_ok-block_of.field-0, c.loop-k.invariant.0),
      blocks_more c.args.judged.now c.args.patterns.now.vectors c.loop-k.blocks.items c.loop-k.k c.in_ok-block_of.field-0 c.loop-k.invariant.0 c.in_ok-block_of.ensures c.loop-k.invariant.1,
    )
