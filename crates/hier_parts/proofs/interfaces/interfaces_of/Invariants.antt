use Rattle.std.proofs.Common.{◌≡◌, take}
use Rattle.hier_parts.proofs.interfaces.interfaces_of.Given as goal

abbrev pub invariant-loop-model : goal.invariant-loop-model
invariant-loop-model l = l.all.items ≡ take l.model-index l.models
