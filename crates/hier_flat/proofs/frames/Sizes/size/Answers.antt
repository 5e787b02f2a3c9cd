use Rattle.std.proofs.Common.{ap, ◌∙◌}
use Rattle.hierarchy_semantics.specs.Models.{Hierarchy, model_named}
use Rattle.hier_flat.specs.Weights.{capped}
use Rattle.hier_flat.specs.Flattening.{size_of}
use Rattle.hier_flat.proofs.Weighed.{sizes_are}
use Rattle.hier_flat.proofs.frames.Sizes.size.Goals as goal

pub returns : goal.returns
returns c =
    let name = c.args.name.now in
    c.weight_at.ensures
    ∙ sizes_are c.self.inside.models.now c.self.inside.sizes.items c.deref.result.now c.self.invariant c.deref.ensures.value name
    ∙ ap (λ (h : Hierarchy). capped (size_of h (model_named h name))) c.self.view_is
