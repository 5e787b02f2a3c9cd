use Rattle.std.proofs.Common.{rules}
use Rattle.graph_questions.specs.Gaps.{IsStep}
use Rattle.graph_questions.proofs.Gaps.{step_whole, step_found}
use Rattle.graph_questions.proofs.gap_steps.step_of.Goals as goal

pub returns-then-not-branch-clause-step : goal.returns-then-not-branch-clause-step
returns-then-not-branch-clause-step g c =
    step_whole c.is_nothing.new.g c.args.places c.weight_of-weight.result c.args.from.now c.args.to.now c.new-whole.result c.add_word.new.self c.take_word.new.self
    c.weight_of-weight.ensures c.new-whole.ensures c.in_ok-add_word.ensures c.in_ok-take_word.ensures

pub returns-clause-step : goal.returns-clause-step
returns-clause-step g c =
    let step : IsStep c.is_nothing.new.g c.args.places c.args.from.now c.args.to.now c.take_word.new.self =
    step_whole c.is_nothing.new.g c.args.places c.weight_of-weight.result c.args.from.now c.args.to.now c.new-whole.result c.add_word.new.self c.take_word.new.self
    c.weight_of-weight.ensures c.new-whole.ensures c.in_ok-add_word.ensures c.in_ok-take_word.ensures in
    step_found c.is_nothing.new.g c.args.places c.args.from.now c.args.to.now c.take_word.new.self c.in_ok-rest.rest c.take_all.new.self c.args.guess.now c.new-found.result c.add_all.new.self
    step c.in_ok-rest.ensures c.in_ok-take_all.ensures (c.in_ok-is_nothing.ensures.nothing (search rules)) c.new-found.ensures c.in_ok-add_all.ensures
