use Rattle.cdcl_core.proofs.Loops.{IsMarking}
use Rattle.cdcl_core.proofs.resolution.mark_others.Given as goal

abbrev pub invariant-loop-literal : goal.invariant-loop-literal
invariant-loop-literal l = IsMarking l.trail.literals l.initial.marks l.marks l.clause l.own l.bound l.literal-index
