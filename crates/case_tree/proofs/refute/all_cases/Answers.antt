use Rattle.std.proofs.Common.{◌≡◌, ◌∙◌, ◌-◌, length, ap, get_or, arith}
use Rattle.semantics.specs.Net.{NetValue, input_count}
use Rattle.case_tree.specs.Cases.{step_count}
use Rattle.case_tree.proofs.Walk.{whole_walk}
use Rattle.case_tree.proofs.refute.all_cases.Goals as goal

pub push_cases-requires-clause-ids : goal.push_cases-requires-clause-ids
push_cases-requires-clause-ids c =
    let width = c.deref_mut-2.ensures.len ∙ c.in_ok-x.ensures.len ∙ c.inputs.ensures.value in
    let same : length c.deref_mut-2.result.now - 0 ≡ input_count c.args.tree.now.net.now = omega (arith, width) in
    omega (arith, c.requires.ids, ap step_count same)

pub returns : goal.returns
returns c =
    let N : NetValue = c.args.tree.now.net.now in
    whole_walk (input_count N) N.tables c.args.tree.now.order.now (get_or N.outputs 0 0) c.deref_mut-2.result.now _ c.new.result c.push_cases.new.cases.log
    (c.deref_mut-2.ensures.len ∙ c.in_ok-x.ensures.len ∙ c.inputs.ensures.value) c.new.ensures c.in_ok-push_cases.ensures.log
