use Rattle.std.proofs.Common.{take}
use Rattle.cdcl_core.specs.Visited.{AreOthersFalse}
use Rattle.cdcl_core.proofs.visit.free_literal.Given as goal

abbrev pub invariant-loop-literal : goal.invariant-loop-literal
invariant-loop-literal l = AreOthersFalse l.trail.literals (take l.literal-index l.literals) l.first
