use Rattle.std.proofs.Common.{arith, subst}
use Rattle.std.proofs.lemmas.Result.{IfOk-weaker}
use Rattle.worst_case.specs.Exceeds.{IsAsked}
use Rattle.worst_case.proofs.Decided.{level_told, level_at}
use Rattle.worst_case.proofs.margin.by_solver.Goals as goal

pub ask_once-requires : goal.ask_once-requires
ask_once-requires g c = record { many_inputs = omega (arith, c.requires.many_inputs); limit = rw c.in_ok-question.ensures.aim c.requires.limit; posed = c.in_ok-question.ensures.posed }

pub by_last_steps-requires : goal.by_last_steps-requires
by_last_steps-requires g c =
    let nets = c.args.nets.now in
    let q = c.in_ok-question.question in
    record {
      many_inputs = c.requires.many_inputs;
      decider = c.requires.decider;
      limit = rw c.in_ok-question.ensures.aim c.requires.limit;
      posed = c.in_ok-question.ensures.posed;
      spent = subst (IsAsked q.aim nets.exact nets.approx) c.in-Spent.is c.in_ok-first.ensures;
    }

pub returns-in-Spent-clause-answer : goal.returns-in-Spent-clause-answer
returns-in-Spent-clause-answer g c =
    let nets = c.args.nets.now in
    let q = c.in_ok-question.question in
    IfOk-weaker c.by_last_steps.result _ _
    (λ margin h. level_at c.args.aim q.aim nets.exact nets.approx margin c.in_ok-question.ensures.aim h)
    c.by_last_steps.ensures.answer

pub returns-clause-answer : goal.returns-clause-answer
returns-clause-answer g c =
    let nets = c.args.nets.now in
    let q = c.in_ok-question.question in
    level_told c.args.aim q.aim nets.exact nets.approx c.in_ok-first.first c.margin_of.result c.margin_of.ensures c.in_ok-question.ensures.aim c.requires.many_inputs c.in_ok-first.ensures
