use Rattle.std.proofs.Common.{◌∙◌, arith}
use Rattle.cnf_core.proofs.Formulas.{output-within, IsCnf-goal, goal_of-parts}
use Rattle.cnf_core.proofs.of_net.of_goal.Goals as goal

pub push_unit_clause-requires : goal.push_unit_clause-requires
push_unit_clause-requires c =
    let within = output-within c.args.net.now c.in_ok-variables.ensures.built c.requires.one_output in
    omega (arith, within, c.output.ensures.value, c.requires.variables)

pub new-requires : goal.new-requires
new-requires c =
    IsCnf-goal c.args.net.now _ c.in_ok-variables.ensures.built c.requires.one_output c.requires.variables
    (goal_of-parts c.args.net.now _ c.output.result _ _ _ c.in_ok-variables.ensures.count c.new-clauses.ensures c.in_ok-variables.ensures.pushed c.output.ensures.value
    c.in_ok-push_unit_clause.ensures)

pub returns : goal.returns
returns c =
    c.new.ensures
    ∙ goal_of-parts c.args.net.now _ c.output.result _ _ _ c.in_ok-variables.ensures.count c.new-clauses.ensures c.in_ok-variables.ensures.pushed c.output.ensures.value
    c.in_ok-push_unit_clause.ensures
