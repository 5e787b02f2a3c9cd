use Rattle.std.proofs.Common.{length, ap, arith}
use Rattle.proof_semantics.specs.Formula.{Formula}
use Rattle.merge_log.proofs.Ready.{clauses_counted}
use Rattle.merge_log.proofs.places.see_few.Goals as goal

pub returns-clause-variables : goal.returns-clause-variables
returns-clause-variables c = omega (arith, ap (λ (f : Formula). f.variables) c.requires, c.vars-variables.ensures.formed.few_variables)

pub returns-clause-tables : goal.returns-clause-tables
returns-clause-tables c =
    omega (arith, clauses_counted c.args.net.now c.inputs-inputs.ensures.built, ap (λ (f : Formula). length f.clauses) c.requires, c.clause_count-count.ensures.few)

pub returns-clause-formula : goal.returns-clause-formula
returns-clause-formula c = omega (arith, ap (λ (f : Formula). length f.clauses) c.requires, c.clause_count-count.ensures.few)
