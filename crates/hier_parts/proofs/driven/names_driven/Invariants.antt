use Rattle.std.proofs.Common.{◌≡◌, ◌++◌, map, flat_map, drop}
use Rattle.text_words.specs.Slices.{texts}
use Rattle.hier_parts.specs.Sections.{part_value}
use Rattle.hier_parts.specs.Driven.{part_names}
use Rattle.hier_parts.proofs.driven.names_driven.Given as goal

abbrev pub invariant-loop-part : goal.invariant-loop-part
invariant-loop-part l =
    texts l.names.items ++ flat_map (part_names l.models) (map part_value (drop l.part-index l.part-items))
    ≡ texts l.initial.names.items ++ flat_map (part_names l.models) (map part_value l.part-items)
