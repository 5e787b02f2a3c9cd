use Rattle.std.proofs.Common.{◌≡◌, map, take}
use Rattle.std.specs.List.{AllByRecursion}
use Rattle.hier_flat.specs.Plans.{IsPlan}
use Rattle.hier_flat.proofs.plans.plans_of.Given as goal

abbrev pub invariant-loop-i : goal.invariant-loop-i
invariant-loop-i l = (map (λ p. p.model.now) l.plans.items ≡ take l.i l.models) × AllByRecursion (IsPlan l.models) l.plans.items
