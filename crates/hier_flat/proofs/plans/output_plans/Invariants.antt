use Rattle.std.proofs.Common.{◌≡◌, ◌++◌, map, filter, drop}
use Rattle.semantics.specs.Refusals.{has_name}
use Rattle.hier_flat.specs.Plans.{output_plan}
use Rattle.hier_flat.proofs.plans.output_plans.Given as goal

abbrev pub invariant-loop-b : goal.invariant-loop-b
invariant-loop-b l =
    l.outputs.items ++ map (output_plan l.inside) (filter (λ b. has_name l.model.outputs b.formal) (drop l.b-index l.b-items))
    ≡ map (output_plan l.inside) (filter (λ b. has_name l.model.outputs b.formal) l.b-items)
