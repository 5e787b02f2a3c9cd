use Rattle.std.proofs.Common.{ap, take, ◌∙◌}
use Rattle.graph_questions.proofs.Gaps.{lowest_is}
use Rattle.graph_questions.proofs.gap_steps.low_literals.Goals as goal

pub returns-clause-low : goal.returns-clause-low
returns-clause-low c =
    lowest_is c.output_literals.new.g c.args.net.now c.args.places c.args.inputs.now c.in_ok-all.all.items c.in_ok-to_vec.field-0.items
    c.requires.places c.in_ok-all.ensures.outputs (c.in_ok-to_vec.ensures.items_if_clones_equal (λ x y is. is) ∙ ap (take c.args.places) c.deref.ensures.value)
