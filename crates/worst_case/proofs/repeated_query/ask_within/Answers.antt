use Rattle.std.proofs.Common.{subst}
use Rattle.std.proofs.lemmas.Result.{IfOk-weaker}
use Rattle.worst_case.specs.Exceeds.{IsAsked}
use Rattle.worst_case.proofs.Queries.{asked_at}
use Rattle.worst_case.proofs.repeated_query.ask_within.Goals as goal

pub ask_once-requires : goal.ask_once-requires
ask_once-requires g c = record { many_inputs = c.requires.many_inputs; limit = rw c.in_ok-question.ensures.aim c.requires.limit; posed = c.in_ok-question.ensures.posed }

pub ask_again-requires : goal.ask_again-requires
ask_again-requires g c =
    let nets = c.args.nets.now in
    let q = c.in_ok-question.question in
    record {
      many_inputs = c.requires.many_inputs;
      limit = rw c.in_ok-question.ensures.aim c.requires.limit;
      posed = c.in_ok-question.ensures.posed;
      spent = subst (IsAsked q.aim nets.exact nets.approx) c.in-Spent.is c.in_ok-first.ensures;
    }

pub returns-in-Spent : goal.returns-in-Spent
returns-in-Spent g c =
    let nets = c.args.nets.now in
    let q = c.in_ok-question.question in
    IfOk-weaker c.ask_again.result _ _
    (λ exceed h. asked_at c.args.aim q.aim nets.exact nets.approx exceed c.in_ok-question.ensures.aim h)
    c.ask_again.ensures

pub returns : goal.returns
returns g c =
    let nets = c.args.nets.now in
    let q = c.in_ok-question.question in
    asked_at c.args.aim q.aim nets.exact nets.approx c.in_ok-first.first c.in_ok-question.ensures.aim c.in_ok-first.ensures
