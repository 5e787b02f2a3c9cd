use Rattle.std.proofs.Common.{◌∙◌, ℕ, Bool, List, get_or, false, ap, sym, subst}
use Rattle.semantics.specs.Net.{NetValue, input_count}
use Rattle.lane_nets.specs.Words.{HasValues}
use Rattle.case_tree.specs.Cases.{ordered_hints}
use Rattle.case_tree.proofs.Behind.{rest_slice, values_here, values_told}
use Rattle.case_tree.proofs.Walk.{written-back, vector_step-is}
use Rattle.case_tree.proofs.refute.vector_step.Goals as goal

pub returns-clause-step : goal.returns-clause-step
returns-clause-step c =
    let N : NetValue = c.args.tree.now.net.now in
    let x : List Bool = c.args.x.now in
    let output : ℕ = get_or N.outputs 0 0 in
    let order : List ℕ = c.args.tree.now.order.now in
    let words : List ℕ = c.args.words.now in
    let here = values_here N x c.args.tree.now.rest.now.inputs words c.requires.width c.requires.values in
    let lane = c.lane_of.ensures.value ∙ rest_slice x c.inputs.result c.args.tree.now.rest.now.inputs c.inputs.ensures.value in
    let at_lane : HasValues N words c.lane_of.result x = subst (λ b. HasValues N words b x) (sym lane) here in
    let along = c.in_ok-hints.ensures.hints ∙ ap (λ values. ordered_hints (input_count N) N.tables order output (λ s. get_or values s false))
    (written-back c.args.room.now.values.len c.set_lane.new.bits c.args.room.now.values.items (c.set_lane.auto.bits ∙ c.deref_mut.ensures.len)) in
    c.new.ensures
    ∙ vector_step-is c.args.id (input_count N) N.tables order output x (λ s. get_or c.set_lane.new.bits s false) c.in_ok-negation.field-0 c.in_ok-hints.hints
    c.requires.tree.order c.in_ok-negation.ensures along (values_told N words c.lane_of.result x c.set_lane.new.bits c.set_lane.ensures c.requires.words at_lane)
