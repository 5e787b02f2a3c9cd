use Rattle.std.proofs.Common.{◌≡◌, length}
use Rattle.bundle.specs.Shown.{asked_moves, IsBroken}
use Rattle.bundle.proofs.Marks.{AreMarkedSoFar}
use Rattle.bundle.proofs.minimality.marks_after.Given as goal

abbrev pub invariant-loop-mark : goal.invariant-loop-mark
invariant-loop-mark l = record {
  so_far : AreMarkedSoFar (IsBroken l.asked l.block.vectors) (asked_moves l.asked) l.left l.marks l.after.items;
  count : length l.after.items ≡ l.mark-index;
  masks : l.masks ≡ record { exact = l.asked.exact; net = l.asked.approx; metric = l.asked.metric; bound = l.asked.bound; vectors = l.block.vectors };
}
