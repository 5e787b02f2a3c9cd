use Rattle.std.proofs.Common.{take}
use Rattle.cdcl_core.specs.Watched.{IsBinary}
use Rattle.cdcl_core.proofs.clause.is_binary.Given as goal

abbrev pub invariant-loop-literal : goal.invariant-loop-literal
invariant-loop-literal l = IsBinary l.one l.other (take l.literal-index l.clause)
