use Rattle.std.proofs.Common.{◌≡◌, ◌++◌, map, flat_map, drop}
use Rattle.blif_semantics.specs.Reading.{signal_named}
use Rattle.hierarchy_semantics.specs.Models.{part_uses}
use Rattle.hier_parts.specs.Sections.{part_value}
use Rattle.hier_parts.proofs.users.used_models.Given as goal

abbrev pub invariant-loop-part : goal.invariant-loop-part
invariant-loop-part l =
    l.used ++ map (λ c. signal_named l.names c.model) (flat_map part_uses (map part_value (drop l.part-index l.part-items)))
    ≡ map (λ c. signal_named l.names c.model) (flat_map part_uses (map part_value l.part-items))
