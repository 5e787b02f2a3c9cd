use Rattle.std.proofs.Common.{◌≡◌, ℕ, ◌+◌, false, length, get_or}
use Rattle.bundle.specs.Shown.{asked_moves}
use Rattle.bundle.proofs.minimality.first_marks.Given as goal

abbrev pub invariant-loop-a_move : goal.invariant-loop-a_move
invariant-loop-a_move l = record {
  same : length l.marks.items + length l.left ≡ length (asked_moves l.asked);
  none : (i : ℕ) → get_or l.marks.items i false ≡ false;
}

abbrev pub decreases-loop-a_move : goal.decreases-loop-a_move
decreases-loop-a_move l = length l.left
