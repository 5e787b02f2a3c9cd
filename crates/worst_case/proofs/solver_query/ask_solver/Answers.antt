use Rattle.std.proofs.lemmas.Result.{IfOk-weaker}
use Rattle.worst_case.proofs.Queries.{asked_at}
use Rattle.worst_case.proofs.solver_query.ask_solver.Goals as goal

pub ask_once-requires : goal.ask_once-requires
ask_once-requires g c = record { many_inputs = c.requires.many_inputs; limit = rw c.in_ok-question.ensures.aim c.requires.limit; posed = c.in_ok-question.ensures.posed }

pub returns : goal.returns
returns g c =
    let nets = c.args.nets.now in
    let q = c.in_ok-question.question in
    IfOk-weaker c.ask_once.result _ _
    (λ exceed h. asked_at c.args.aim q.aim nets.exact nets.approx exceed c.in_ok-question.ensures.aim h)
    c.ask_once.ensures
