-- What the code holds of a fault of models.
use Rattle.std.specs.Prelude.{List, map, Option, None, option_map, if◌then◌else◌}
use Rattle.std.specs.Borrow.{Bor}
use Rattle.semantics.specs.Texts.{Bytes}
use Rattle.semantics.specs.Refusals.{has_name, first_doubled}
use Rattle.blif_semantics.specs.Reading.{doubled, no_output, undriven}
use Rattle.hierarchy_semantics.specs.Models.{Subcircuit, BlifModel}
use Rattle.hierarchy_semantics.specs.Refusals as r
use Rattle.hierarchy_semantics.specs.Refusals.{HierRefusal}
use Rattle.hier_faults.specs.declared.faults.Fault.{Fault}
use Rattle.hier_faults.specs.declared.faults.Fault.TheVariants as f

abbrev pub fault_value : Fault → HierRefusal
fault_value (f.SameModel name) = r.same_model name.now
fault_value (f.NoModel name) = r.no_model_named name.now
fault_value (f.Recursive name) = r.recursive name.now
fault_value (f.Ports model name) = r.ports model.now name.now
fault_value (f.Formal line name) = r.formal line name.now
fault_value (f.Unbound line name) = r.unbound line name.now
fault_value (f.Doubled model name) = r.part model.now (doubled name.now)
fault_value (f.NoOutput model) = r.part model.now no_output
fault_value (f.Undriven model name) = r.part model.now (undriven name.now)
fault_value (f.Taken name) = r.taken name.now

-- the uses that references point to
abbrev pub uses_value : List (Bor Subcircuit) → List Subcircuit
uses_value uses = map (λ c. c.now) uses

-- a model whose name is one of those that are used has a name twice among its ports
abbrev pub doubled_port_in : List Bytes → BlifModel → Option HierRefusal
doubled_port_in used m = if has_name used m.name then option_map (r.ports m.name) (first_doubled m.ports)
    else None
