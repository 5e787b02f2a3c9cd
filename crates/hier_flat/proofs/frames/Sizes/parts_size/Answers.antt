use Rattle.std.proofs.Common.{ap, ◌∙◌, sum_by}
use Rattle.hierarchy_semantics.specs.Models.{Hierarchy, uses_of}
use Rattle.hier_flat.specs.Weights.{capped}
use Rattle.hier_flat.specs.Flattening.{size_of, part_size}
use Rattle.hier_flat.proofs.Weighed.{sizes_used}
use Rattle.hier_flat.proofs.frames.Sizes.parts_size.Goals as goal

pub returns : goal.returns
returns c =
    let h = c.self.inside.models.now in
    c.model_weight.ensures (size_of h) (sizes_used h c.self.inside.sizes.items c.deref.result.now c.self.invariant c.deref.ensures.value (uses_of c.args.m.now))
    ∙ ap (λ (k : Hierarchy). capped (sum_by (part_size k) c.args.m.now.parts)) c.self.view_is
