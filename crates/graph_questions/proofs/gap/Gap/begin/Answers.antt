use Rattle.std.proofs.Common.{List, ℕ, ap, subst, ◌∙◌}
use Rattle.aig_core.specs.Graph.{GraphValue}
use Rattle.graph_questions.specs.Gaps.{AreLowestOf}
use Rattle.graph_questions.proofs.Gaps.{gap_begun}
use Rattle.graph_questions.proofs.gap.Gap.begin.Goals as goal

pub returns-clause-gap : goal.returns-clause-gap
returns-clause-gap c =
    let inputs = c.in_ok-inputs.inputs.items in
    let exact = c.in_ok-exact_low.exact_low.items in
    let lowest = subst (λ (ls : List ℕ). AreLowestOf c.low_literals.new.g c.args.exact.now c.args.places ls exact) c.deref.ensures.value c.in_ok-exact_low.ensures.low in
    gap_begun c.new-graph.result c.low_literals.new.g c.args.exact.now c.args.places inputs exact c.in_ok-member_low.member_low.items c.new.result
    (ap (λ (g : GraphValue). g.inputs) c.new-graph.ensures ∙ c.inputs.ensures.value) c.in_ok-exact_low.ensures.grows
    c.in_ok-inputs.ensures.length c.in_ok-inputs.ensures.within c.in_ok-inputs.ensures.inputs c.requires.few c.requires.in_outputs lowest
    (c.in_ok-member_low.ensures.items_if_clones_equal (λ x y is. is) ∙ c.deref-2.ensures.value) c.new.ensures
