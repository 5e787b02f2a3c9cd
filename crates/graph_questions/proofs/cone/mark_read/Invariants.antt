use Rattle.std.proofs.Common.{◌≤◌, length}
use Rattle.graph_questions.proofs.cone.mark_read.Given as goal

-- the gates from place i on were looked at
abbrev pub invariant-loop-i : goal.invariant-loop-i
invariant-loop-i l = l.i ≤ length l.gates

abbrev pub decreases-loop-i : goal.decreases-loop-i
decreases-loop-i l = l.i
