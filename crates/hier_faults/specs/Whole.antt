-- What keeps a model from being whole, part by part.
use Rattle.std.specs.Prelude.{◌==◌, not, List, [], ◌∷◌, length, Option, Some, None, option_map, if◌then◌else◌}
use Rattle.std.specs.List.{find}
use Rattle.semantics.specs.Texts.{Bytes}
use Rattle.semantics.specs.Refusals.{has_name, first_doubled, or_else}
use Rattle.blif_semantics.specs.Reading.{Refusal, doubled, no_output, undriven}
use Rattle.hierarchy_semantics.specs.Models.{Part, BlifModel, Hierarchy}
use Rattle.hierarchy_semantics.specs.Driven.{part_reads}
use Rattle.hier_parts.specs.Driven.{driven_names}
use Rattle.hier_parts.specs.Sets.{with_names}

-- the first name that one of the parts reads, or else the first output, that is not among the driven names
abbrev pub undriven_in : Hierarchy → List Bytes → List Part → List Bytes → Option Bytes
undriven_in h driven [] outputs = find (λ name. not (has_name driven name)) outputs
undriven_in h driven (p ∷ parts) outputs =
    elim (find (λ name. not (has_name driven name)) (part_reads h p))
    [ None ↦ undriven_in h driven parts outputs | Some name ↦ Some name ]

abbrev pub model_fault : Hierarchy → BlifModel → Option Refusal
model_fault h m =
    or_else (first_doubled (driven_names h m)) doubled
    (if length m.outputs == 0 then Some no_output
    else option_map undriven (undriven_in h (with_names [] (driven_names h m)) m.parts m.outputs))
