use Rattle.std.proofs.Common.{◌≡◌, drop}
use Rattle.hierarchy_semantics.specs.Refusals.{first_found}
use Rattle.hier_faults.specs.Tests.{part_fault}
use Rattle.hier_faults.proofs.faulty.part_faults.Given as goal

abbrev pub invariant-loop-model : goal.invariant-loop-model
invariant-loop-model l = first_found (part_fault l.found) (drop l.model-index l.models) ≡ first_found (part_fault l.found) l.models
