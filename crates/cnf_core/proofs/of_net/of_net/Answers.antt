use Rattle.cnf_core.proofs.Formulas.{IsCnf-net, formula_of-parts}
use Rattle.cnf_core.proofs.of_net.of_net.Goals as goal

pub new-requires : goal.new-requires
new-requires c =
    IsCnf-net c.args.net.now _ c.in_ok-variables.ensures.built c.requires
    (formula_of-parts c.args.net.now _ _ _ c.in_ok-variables.ensures.count c.new-clauses.ensures c.in_ok-variables.ensures.pushed)
