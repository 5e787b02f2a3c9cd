use Rattle.std.proofs.Common.{◌≡◌, ◌++◌, map, drop}
use Rattle.hierarchy_semantics.specs.Models.{parts_of}
use Rattle.hier_parts.specs.Sections.{part_value}
use Rattle.hier_parts.proofs.models.parts_of.Given as goal

abbrev pub invariant-loop-i : goal.invariant-loop-i
invariant-loop-i l = map part_value l.parts.items ++ parts_of (drop l.i l.lines) ≡ parts_of l.lines
