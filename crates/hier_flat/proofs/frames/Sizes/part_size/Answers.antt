use Rattle.std.proofs.Common.{ap, ◌∙◌}
use Rattle.hierarchy_semantics.specs.Models.{Hierarchy, part_uses}
use Rattle.hier_parts.specs.Sections.{part_value}
use Rattle.hier_flat.specs.Weights.{capped}
use Rattle.hier_flat.specs.Flattening.{size_of, part_size}
use Rattle.hier_flat.proofs.Weighed.{sizes_used}
use Rattle.hier_flat.proofs.frames.Sizes.part_size.Goals as goal

pub returns : goal.returns
returns c =
    let h = c.self.inside.models.now in
    c.part_weight.ensures (size_of h) (sizes_used h c.self.inside.sizes.items c.deref.result.now c.self.invariant c.deref.ensures.value (part_uses (part_value c.args.part.now)))
    ∙ ap (λ (k : Hierarchy). capped (part_size k (part_value c.args.part.now))) c.self.view_is
