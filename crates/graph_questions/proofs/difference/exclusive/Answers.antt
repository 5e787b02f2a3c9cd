use Rattle.std.proofs.lemmas.Result.{IfOk-weaker}
use Rattle.graph_questions.proofs.Differences.{exclusive_is}
use Rattle.graph_questions.proofs.difference.exclusive.Goals as goal

pub returns-clause-value : goal.returns-clause-value
returns-clause-value c =
    IfOk-weaker c.or.result _ _
    (λ r either. exclusive_is c.and.new.self c.and-2.new.self c.or.new.self c.args.a c.args.b c.opposite-2.result c.opposite.result c.in_ok-first.first c.in_ok-second.second r
    c.in_ok-second.ensures.grows c.or.ensures.grows c.opposite-2.ensures.value c.opposite.ensures.value c.in_ok-first.ensures.ok c.in_ok-second.ensures.ok either)
    c.or.ensures.ok
