use Rattle.std.proofs.Common.{◌≡◌, take}
use Rattle.cdcl_core.proofs.clause.written.Given as goal

abbrev pub invariant-loop-literal : goal.invariant-loop-literal
invariant-loop-literal l = l.lits ≡ take l.literal-index l.clause
