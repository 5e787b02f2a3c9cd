use Rattle.std.proofs.Common.{◌≡◌, ℕ, ◌+◌, map, flat_map, drop, sum_by}
use Rattle.hierarchy_semantics.specs.Models.{BlifModel, part_uses}
use Rattle.hierarchy_semantics.specs.Counts.{part_weight}
use Rattle.hier_parts.specs.Sections.{part_value}
use Rattle.hier_flat.specs.Weights.{weight_of, capped, AreWeights}
use Rattle.hier_flat.proofs.weights.model_weight.Given as goal

abbrev pub invariant-loop-part : goal.invariant-loop-part
invariant-loop-part l =
    (l.total ≡ capped l.total)
    × ((weight : BlifModel → ℕ) → AreWeights l.models l.inside weight (flat_map part_uses (map part_value l.part-items))
    → capped (l.total + sum_by (part_weight l.models (weight_of l.measure) weight) (map part_value (drop l.part-index l.part-items)))
    ≡ capped (sum_by (part_weight l.models (weight_of l.measure) weight) (map part_value l.part-items)))
