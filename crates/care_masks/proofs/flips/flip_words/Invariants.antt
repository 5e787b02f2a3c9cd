use Rattle.std.proofs.Common.{ℕ, ◌<◌, get_or, take}
use Rattle.semantics.specs.Net.{signal_count}
use Rattle.care_masks.specs.Flips.{IsSettled}
use Rattle.care_masks.proofs.Flipping.{IsFlippedFrom}
use Rattle.care_masks.proofs.flips.flip_words.Given as goal

abbrev pub invariant-loop-i : goal.invariant-loop-i
invariant-loop-i l =
    (s : ℕ) → s < signal_count l.net → IsSettled l.net l.fn.turned.table (take l.i-index l.fn.turned.later.now) s → IsFlippedFrom l.net l.fn.turned.table l.fn.words s (get_or l.words s 0)
