-- The tests of models one after another, in three groups.
use Rattle.std.specs.Prelude.{not, List, [], map, Option, Some, None, option_map}
use Rattle.std.specs.List.{find}
use Rattle.semantics.specs.Texts.{Bytes}
use Rattle.semantics.specs.Refusals.{has_name, first_doubled}
use Rattle.hierarchy_semantics.specs.Models.{Subcircuit, BlifModel, Hierarchy, main_of}
use Rattle.hierarchy_semantics.specs.Refusals.{HierRefusal, same_model, no_model_named, recursive, part}
use Rattle.hierarchy_semantics.specs.Refusals.{taken, first_found, first_recursive, formal_refusal}
use Rattle.hierarchy_semantics.specs.Refusals.{unbound_refusal, is_taken}
use Rattle.hier_faults.specs.Faults.{doubled_port_in}
use Rattle.hier_parts.specs.Sets.{with_names}
use Rattle.hier_parts.specs.Driven.{driven_names}
use Rattle.hier_faults.specs.Whole.{model_fault}

-- the first of two refusals
abbrev pub or_first : Option HierRefusal → Option HierRefusal → Option HierRefusal
or_first None rest = rest
or_first (Some r) rest = Some r

-- a name of two models, a use of a model that is not there, or a model that uses itself
abbrev pub names_refusal : List Bytes → List Bytes → List Subcircuit → Hierarchy → Option HierRefusal
names_refusal names known uses h =
    or_first (option_map same_model (first_doubled names))
    (or_first (option_map (λ c. no_model_named c.model) (find (λ c. not (has_name known c.model)) uses))
    (option_map (λ m. recursive m.name) (first_recursive h)))

-- a port that stands twice, a binding of no port or a second one, or an input that is not bound
abbrev pub ports_refusal : List Subcircuit → Hierarchy → Option HierRefusal
ports_refusal uses h =
    or_first (first_found (doubled_port_in (with_names [] (map (λ c. c.model) uses))) h)
    (or_first (first_found (formal_refusal h) uses) (first_found (unbound_refusal h) uses))

abbrev pub part_fault : Hierarchy → BlifModel → Option HierRefusal
part_fault h m = option_map (part m.name) (model_fault h m)

-- a model that is not whole, or a name that is taken
abbrev pub whole_refusal : Hierarchy → Option HierRefusal
whole_refusal h = or_first (first_found (part_fault h) h)
    (option_map taken (find is_taken (driven_names h (main_of h))))

-- the ports, and then the parts
abbrev pub form_refusal : List Subcircuit → Hierarchy → Option HierRefusal
form_refusal uses h = or_first (ports_refusal uses h) (whole_refusal h)
