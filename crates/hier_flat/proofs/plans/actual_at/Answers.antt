use Rattle.std.proofs.Common.{get_or, ap, ◌∙◌}
use Rattle.blif_text.specs.Names.{place_of}
use Rattle.hierarchy_semantics.specs.Models.{Binding, Subcircuit}
use Rattle.hier_flat.proofs.Planned.{actual_found, actual_none}
use Rattle.hier_flat.proofs.plans.actual_at.Goals as goal

pub returns-in_default : goal.returns-in_default
returns-in_default c = actual_none c.args.c.now c.args.name.now (c.in_default.ensures ∙ ap (λ v. place_of v c.args.name.now) c.requires)

pub returns : goal.returns
returns c =
    ap (λ (b : Binding). b.actual) (c.behind-c.view_is ∙ c.index.ensures)
    ∙ ap (λ (s : Subcircuit). (get_or s.bindings c.in-Some.i c.index.result.now).actual) c.c.view_is
    ∙ actual_found c.args.c.now c.args.name.now c.in-Some.i c.index.result.now (c.in-Some.ensures ∙ ap (λ v. place_of v c.args.name.now) c.requires)
