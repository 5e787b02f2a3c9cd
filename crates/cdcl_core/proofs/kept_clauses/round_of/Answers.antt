use Rattle.std.proofs.Common.{◌<◌, ◌^◌, ℕ, List, length, subst, sym, arith}
use Rattle.proof_semantics.specs.Clauses.{AreClausesOf}
use Rattle.proof_semantics.specs.Formula.{Formula}
use Rattle.proof_semantics.specs.Conflicts.{clauses_with}
use Rattle.cdcl_core.proofs.Named.{round_literals, none_named}
use Rattle.cdcl_core.proofs.kept_clauses.round_of.Goals as goal

pub push_with_ids-requires-clause-named : goal.push_with_ids-requires-clause-named
push_with_ids-requires-clause-named c = rw (c.new.ensures, c.new-2.ensures) (none_named (clauses_with c.args.cnf.now.clauses c.args.whole.now))

pub new-formula-requires : goal.new-formula-requires
new-formula-requires c = record {
  few_variables = subst (λ n. n < 2 ^ 31) (sym c.vars.ensures.value) c.vars.ensures.formed.few_variables;
  literals = subst (λ n. AreClausesOf n c.push_with_ids.new.draft.clauses) (sym c.vars.ensures.value)
      (round_literals c.args.cnf.now c.args.whole.now c.push_with_ids.new.draft.clauses c.push_with_ids.new.draft.ids c.vars.ensures.formed.literals c.requires
      c.in_ok-push_with_ids.ensures.named);
}

pub returns-clause-short : goal.returns-clause-short
returns-clause-short c =
    let count = c.in_ok-push_with_ids.ensures.named.count in
    let few : length c.push_with_ids.new.draft.ids < 2 ^ 60 = subst (λ (ids : List ℕ). length ids < 2 ^ 60) c.as_slice.ensures c.see_few.ensures in
    subst (λ (round : Formula). length round.clauses < 2 ^ 63) (sym c.new-formula.ensures) (omega (arith, count, few))
