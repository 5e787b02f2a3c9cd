use Rattle.std.proofs.Common.{ap, ◌∙◌}
use Rattle.blif_text.specs.Names.{place_of}
use Rattle.hierarchy_semantics.specs.Models.{Hierarchy}
use Rattle.hierarchy_semantics.specs.Refusals.{model_names}
use Rattle.hier_parts.proofs.interfaces.Interfaces.place.Goals as goal

pub returns : goal.returns
returns c =
    let name = c.args.name.now in
    c.place.ensures ∙ ap (λ v. place_of v name) c.self.invariant.0 ∙ ap (λ (h : Hierarchy). place_of (model_names h) name) c.self.view_is
