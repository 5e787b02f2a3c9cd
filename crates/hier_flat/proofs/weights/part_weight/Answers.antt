use Rattle.std.proofs.Common.{ap, subst, ◌∙◌, length, filter}
use Rattle.semantics.specs.Refusals.{has_name}
use Rattle.hierarchy_semantics.specs.Models.{Subcircuit, BlifModel, model_named, part_uses}
use Rattle.hier_parts.specs.Sections.{part_value}
use Rattle.hier_flat.specs.Weights.{weight_of, weight_named, AreWeights}
use Rattle.hier_flat.proofs.Weighed.{use_weighs}
use Rattle.hier_flat.proofs.weights.part_weight.Goals as goal

pub returns-in-Use : goal.returns-in-Use
returns-in-Use c = λ weight are.
    let h = c.args.models.now in
    let u = c.in-Use.c in
    let name = ap (λ (s : Subcircuit). s.model) c.c.view_is in
    let used = subst (λ p. AreWeights h c.args.inside.now weight (part_uses (part_value p))) c.in-Use.is are in
    use_weighs h (weight_of c.args.measure) weight u (part_value c.args.part.now) c.weight_at.result c.buffers_weight-buffers.result c.output_count.result c.saturating_add.result
    (ap part_value c.in-Use.is)
    (c.weight_at.ensures ∙ ap (λ n. weight_named h c.args.inside.now n) name ∙ used.0) c.buffers_weight-buffers.ensures
    (c.output_count.ensures ∙ ap (λ (m : BlifModel). length (filter (λ b. has_name m.outputs b.formal) u.bindings)) (c.of.ensures ∙ ap (λ n. model_named h n) name)) c.saturating_add.ensures
