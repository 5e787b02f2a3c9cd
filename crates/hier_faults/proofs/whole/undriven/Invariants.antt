use Rattle.std.proofs.Common.{◌≡◌, map, drop}
use Rattle.hier_parts.specs.Sections.{part_value}
use Rattle.hier_faults.specs.Whole.{undriven_in}
use Rattle.hier_faults.proofs.whole.undriven.Given as goal

abbrev pub invariant-loop-part : goal.invariant-loop-part
invariant-loop-part l =
    undriven_in l.models l.driven (map part_value (drop l.part-index l.part-items)) l.m.outputs ≡ undriven_in l.models l.driven (map part_value l.part-items) l.m.outputs
