use Rattle.std.proofs.Common.{arith, refl}
use Rattle.worst_case.proofs.Decided.{level_told}
use Rattle.worst_case.proofs.margin.by_last_steps.Goals as goal

pub ask_again-requires : goal.ask_again-requires
ask_again-requires g c = record { many_inputs = omega (arith, c.requires.many_inputs); limit = c.requires.limit; posed = c.requires.posed; spent = c.requires.spent }

pub returns-in_ok-last-in-None-clause-answer : goal.returns-in_ok-last-in-None-clause-answer
returns-in_ok-last-in-None-clause-answer g c =
    let nets = c.args.nets.now in
    let q = c.args.question.now in
    level_told q.aim q.aim nets.exact nets.approx c.in_ok-last-in-None.last c.margin_of.result c.margin_of.ensures refl c.requires.many_inputs
    c.in_ok-last-in-None.ensures
