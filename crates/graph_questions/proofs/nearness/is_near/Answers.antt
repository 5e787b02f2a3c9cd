use Rattle.std.proofs.Common.{sym, subst}
use Rattle.net_errors.specs.Compared.{NetPair}
use Rattle.chain_semantics.proofs.SameNets.{IsWithin-same}
use Rattle.graph_questions.specs.Levels.{question_of, IsChangeFor}
use Rattle.graph_questions.proofs.nearness.is_near.Goals as goal

pub goal_of-requires-clause-change : goal.goal_of-requires-clause-change
goal_of-requires-clause-change g c =
    let far = c.args.far.now in
    subst (λ (nets : NetPair). IsChangeFor (question_of nets far) c.args.change.now) (sym c.new-nets.ensures)
    (record { keeps = IsWithin-same far.metric c.args.change.now.before.now far.k; made = c.requires.change })
