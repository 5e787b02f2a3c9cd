use Rattle.std.proofs.Common.{◌≡◌, ◌++◌, drop}
use Rattle.hier_faults.specs.Faults.{uses_value}
use Rattle.hierarchy_semantics.specs.Models.{all_uses}
use Rattle.hier_faults.proofs.faults.all_uses.Given as goal

abbrev pub invariant-loop-model : goal.invariant-loop-model
invariant-loop-model l = uses_value l.uses.items ++ all_uses (drop l.model-index l.models) ≡ all_uses l.models
