use Rattle.std.proofs.Common.{◌<◌, length, subst}
use Rattle.graph_questions.proofs.ClauseValues.{stays_more, within_more}
use Rattle.graph_questions.proofs.clauses.push_gates.Goals as goal

pub loop-i-preserved : goal.loop-i-preserved
loop-i-preserved c =
    let low : c.loop-i.i < length c.args.graph.now.gates = subst (λ gates. c.loop-i.i < length gates) c.gates.ensures.gates c.loop-i-test.true in
    record {
      true_at = stays_more c.args.graph.now c.args.clauses.now c.loop-i.clauses _ c.loop-i.i c.values.ensures low c.loop-i.invariant.true_at c.in_ok-push_within.ensures;
      within = within_more c.args.graph.now c.args.clauses.now c.loop-i.clauses _ c.loop-i.i c.is_graph.ensures.graph low c.loop-i.invariant.within c.in_ok-push_within.ensures;
    }
