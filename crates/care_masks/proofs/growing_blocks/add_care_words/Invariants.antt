use Rattle.std.proofs.Common.{◌≡◌, List, Bool, length}
use Rattle.care_masks.specs.Growing.{AreBlocksFor, AreCareWords}
use Rattle.care_masks.proofs.growing_blocks.add_care_words.Given as goal

abbrev pub invariant-loop-k : goal.invariant-loop-k
invariant-loop-k l =
    (length l.row ≡ l.k)
    × ((vectors : List (List Bool)) → length vectors ≡ l.known.count → AreBlocksFor l.known.judged.now vectors l.known.blocks.now → AreCareWords l.known.judged.now vectors l.turned.table l.fn.row
    → AreCareWords l.known.judged.now vectors l.turned.table l.row)
