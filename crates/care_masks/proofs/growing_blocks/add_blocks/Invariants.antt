use Rattle.std.proofs.Common.{◌≡◌, length}
use Rattle.care_masks.specs.Growing.{AreBlocksFor}
use Rattle.care_masks.proofs.growing_blocks.add_blocks.Given as goal

abbrev pub invariant-loop-k : goal.invariant-loop-k
invariant-loop-k l = (length l.blocks.items ≡ l.k) × AreBlocksFor l.judged l.patterns.vectors l.blocks.items
