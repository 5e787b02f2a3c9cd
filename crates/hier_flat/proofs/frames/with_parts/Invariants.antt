use Rattle.std.proofs.Common.{◌≡◌, ◌++◌, ◌+◌, map, drop, sum_by}
use Rattle.hier_parts.specs.Sections.{part_value}
use Rattle.hier_flat.specs.Flattening.{part_size, part_signals}
use Rattle.hier_flat.proofs.frames.with_parts.Given as goal

abbrev pub invariant-loop-part : goal.invariant-loop-part
invariant-loop-part l =
    (l.signals ++ part_signals l.sizes l.next (map part_value (drop l.part-index l.part-items)) ≡ l.initial.signals ++ part_signals l.sizes l.first (map part_value l.part-items))
    × (l.next + sum_by (part_size l.sizes) (map part_value (drop l.part-index l.part-items)) ≡ l.first + sum_by (part_size l.sizes) (map part_value l.part-items))
