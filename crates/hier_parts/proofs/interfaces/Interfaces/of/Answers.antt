use Rattle.std.proofs.Common.{ap, ◌∙◌}
use Rattle.blif_text.specs.Names.{place_of}
use Rattle.hierarchy_semantics.specs.Models.{model_named}
use Rattle.hier_parts.proofs.Found.{model-at, model-none}
use Rattle.hier_parts.proofs.interfaces.Interfaces.of.Goals as goal

pub returns-in-Some : goal.returns-in-Some
returns-in-Some c =
    let name = c.args.name.now in
    c.index.ensures ∙ model-at c.self.inside.all.items name c.in-Some.i _ (c.in-Some.ensures ∙ ap (λ v. place_of v name) c.self.invariant.0) ∙ ap (λ h. model_named h name) c.self.view_is

pub returns-in-None : goal.returns-in-None
returns-in-None c =
    let name = c.args.name.now in
    c.self.invariant.1 ∙ model-none c.self.inside.all.items name (c.in-None.ensures ∙ ap (λ v. place_of v name) c.self.invariant.0) ∙ ap (λ h. model_named h name) c.self.view_is
