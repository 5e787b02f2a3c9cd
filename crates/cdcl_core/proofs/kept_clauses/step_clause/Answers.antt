use Rattle.std.proofs.Common.{◌≡◌, ◌∙◌, ℕ, ◌-◌, length, ap, arith, subst, sym}
use Rattle.proof_semantics.specs.Clauses.{Clause}
use Rattle.proof_semantics.specs.Conflicts.{clauses_with}
use Rattle.cdcl_core.specs.Rounds.{HasId}
use Rattle.cdcl_core.proofs.Named.{step_has_id}
use Rattle.cdcl_core.proofs.kept_clauses.step_clause.Goals as goal

pub returns-in-Add : goal.returns-in-Add
returns-in-Add c =
    let first : c.len-first.result ≡ length c.args.cnf.now.clauses = c.len-first.ensures ∙ ap length c.clauses.ensures.value in
    let place : ℕ = c.args.id - c.len-first.result - 1 in
    subst (λ (C : Clause). HasId (clauses_with c.args.cnf.now.clauses c.args.whole.now) C c.args.id) (sym c.lits.ensures)
    (step_has_id c.args.cnf.now c.args.whole.now c.get.result.now c.in-Add.step place c.args.id c.requires (omega arith) c.get.ensures c.in-Add.is (omega arith))
