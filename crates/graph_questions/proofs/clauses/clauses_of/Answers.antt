use Rattle.graph_questions.proofs.ClauseValues.{whole_needed, whole_within}
use Rattle.graph_questions.proofs.clauses.clauses_of.Goals as goal

pub returns-clause-needed : goal.returns-clause-needed
returns-clause-needed c =
    whole_needed c.args.graph.now c.args.goal c.constant.result c.new-clauses.result _ _ _ c.values.ensures c.new-clauses.ensures c.constant.ensures
    c.in_ok-push_true.ensures c.in_ok-push_gates.ensures.true_at c.in_ok-push_true-2.ensures

pub returns-clause-within : goal.returns-clause-within
returns-clause-within c =
    whole_within c.args.graph.now c.args.goal c.constant.result c.new-clauses.result _ _ _ c.requires.goal c.new-clauses.ensures c.constant.ensures
    c.in_ok-push_true.ensures c.in_ok-push_gates.ensures.within c.in_ok-push_true-2.ensures
