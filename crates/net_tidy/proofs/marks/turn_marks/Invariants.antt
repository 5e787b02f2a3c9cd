use Rattle.std.proofs.Common.{◌≡◌}
use Rattle.net_tidy.proofs.Turning.{turned_to}
use Rattle.net_tidy.proofs.marks.turn_marks.Given as goal

abbrev pub invariant-loop-i : goal.invariant-loop-i
invariant-loop-i l = l.marks ≡ turned_to l.i l.s l.pins l.fn.marks
