use Rattle.std.proofs.Common.{◌≡◌, map, take}
use Rattle.std.specs.List.{AllByRecursion}
use Rattle.hier_parts.specs.Sections.{part_value}
use Rattle.hier_flat.specs.Plans.{part_of, IsPartPlan}
use Rattle.hier_flat.proofs.plans.plan_parts.Given as goal

abbrev pub invariant-loop-part : goal.invariant-loop-part
invariant-loop-part l =
    (map part_of l.parts.items ≡ map part_value (take l.part-index l.part-items)) × AllByRecursion (IsPartPlan l.sizes l.names) l.parts.items
