use Rattle.std.proofs.Common.{◌≤◌, take}
use Rattle.care_masks.proofs.Flipping.{AreCollected}
use Rattle.care_masks.proofs.flips.list_later.Given as goal

abbrev pub invariant-loop-i : goal.invariant-loop-i
invariant-loop-i l = (l.count ≤ l.i-index) × AreCollected l.net l.t (take l.i-index l.order) (take l.count l.later)
