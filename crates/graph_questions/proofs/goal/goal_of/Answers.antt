use Rattle.std.proofs.Common.{List, ℕ, ap, subst, ◌∙◌}
use Rattle.semantics.specs.Net.{NetValue, input_count}
use Rattle.aig_core.specs.Graph.{GraphValue}
use Rattle.graph_questions.specs.Levels.{question_of, IsTrueWhereOver}
use Rattle.graph_questions.proofs.ErrorLiterals.{over_graph}
use Rattle.graph_questions.proofs.goal.goal_of.Goals as goal

pub returns : goal.returns
returns c =
    let q = question_of c.args.nets.now c.args.level.now in
    over_graph q c.new-graph.result c.goal_literal.new.g c.in_ok-inputs.inputs.items c.in_ok-literal.literal
    (ap (λ (g : GraphValue). g.inputs) c.new-graph.ensures ∙ c.inputs.ensures.value ∙ ap (λ (N : NetValue). input_count N) c.exact.ensures.value) c.in_ok-literal.ensures.grows
    c.in_ok-inputs.ensures.length c.in_ok-inputs.ensures.inputs
    (subst (λ (l : List ℕ). IsTrueWhereOver c.goal_literal.new.g q l c.in_ok-literal.literal) c.deref.ensures.value c.in_ok-literal.ensures.over)
    c.values.ensures
