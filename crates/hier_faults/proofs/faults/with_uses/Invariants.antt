use Rattle.std.proofs.Common.{◌≡◌, ◌++◌, map, flat_map, drop}
use Rattle.hier_faults.specs.Faults.{uses_value}
use Rattle.hierarchy_semantics.specs.Models.{part_uses}
use Rattle.hier_parts.specs.Sections.{part_value}
use Rattle.hier_faults.proofs.faults.with_uses.Given as goal

abbrev pub invariant-loop-part : goal.invariant-loop-part
invariant-loop-part l = uses_value l.uses.items ++ flat_map part_uses (map part_value (drop l.part-index l.part-items)) ≡ uses_value l.fn.uses.items ++ flat_map part_uses (map part_value l.part-items)
