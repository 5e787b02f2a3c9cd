use Rattle.proof_semantics.specs.Conflicts.{clauses_with}
use Rattle.cdcl_core.proofs.Named.{named_pushed_as, found_has_id}
use Rattle.cdcl_core.proofs.kept_clauses.push_with_ids.Goals as goal
use Rattle.cdcl_core.proofs.kept_clauses.push_with_ids.Goals.{in-Some+in_ok-push_named, in_default}

pub loop-id-preserved : goal.loop-id-preserved
loop-id-preserved c = elim c.match-whole_clause.branch [
  | in-Some+in_ok-push_named w ↦ rw w.draft-is
      (named_pushed_as (clauses_with c.args.cnf.now.clauses c.args.whole.now) c.loop-id.draft.clauses w.push_named.new.draft.clauses c.loop-id.draft.ids w.push_named.new.draft.ids w.in-Some.lits.now _
      c.loop-id.invariant (found_has_id (clauses_with c.args.cnf.now.clauses c.args.whole.now) c.whole_clause.result w.in-Some.lits _ c.whole_clause.ensures w.in-Some.is)
      w.in_ok-push_named.ensures.clauses w.in_ok-push_named.ensures.ids)
  | in_default w ↦ rw w.draft-is c.loop-id.invariant
]
