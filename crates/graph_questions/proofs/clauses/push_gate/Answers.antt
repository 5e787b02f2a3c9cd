use Rattle.std.proofs.lemmas.Result.{on_ok_weaker}
use Rattle.graph_questions.proofs.ClauseValues.{gate_pushed}
use Rattle.graph_questions.proofs.clauses.push_gate.Goals as goal

pub returns : goal.returns
returns c =
    on_ok_weaker _
    (λ is. gate_pushed c.args.clauses.now _ _ c.push_converse.new.clauses c.args.node c.args.gate c.in_ok-push_implied.ensures c.in_ok-push_implied-2.ensures is) c.push_converse.ensures
