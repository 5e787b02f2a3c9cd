use Rattle.cdcl_core.proofs.Loops.{IsLastFrom}
use Rattle.cdcl_core.proofs.trail_marks.Marks.highest.Given as goal

abbrev pub invariant-down : goal.invariant-down
invariant-down l = IsLastFrom l.self-inside.on.items l.low l.high l.place

abbrev pub decreases-down : goal.decreases-down
decreases-down l = l.place
