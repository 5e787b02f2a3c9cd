use Rattle.std.proofs.Common.{◌≡◌, drop}
use Rattle.hier_faults.specs.Faults.{doubled_port_in}
use Rattle.hierarchy_semantics.specs.Refusals.{first_found}
use Rattle.hier_faults.proofs.faults.doubled_ports.Given as goal

abbrev pub invariant-loop-model : goal.invariant-loop-model
invariant-loop-model l = first_found (doubled_port_in l.used) (drop l.model-index l.models) ≡ first_found (doubled_port_in l.used) l.models
