use Rattle.std.proofs.Common.{take}
use Rattle.cdcl_core.specs.Jump.{IsLastOther}
use Rattle.cdcl_core.proofs.jump.last_other.Given as goal

abbrev pub invariant-loop-literal : goal.invariant-loop-literal
invariant-loop-literal l = IsLastOther l.trail.literals l.start l.own l.clause (take l.literal-index l.clause) l.last
