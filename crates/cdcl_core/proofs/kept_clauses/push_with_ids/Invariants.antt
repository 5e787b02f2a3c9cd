use Rattle.proof_semantics.specs.Conflicts.{clauses_with}
use Rattle.cdcl_core.specs.Rounds.{AreNamed}
use Rattle.cdcl_core.proofs.kept_clauses.push_with_ids.Given as goal

abbrev pub invariant-loop-id : goal.invariant-loop-id
invariant-loop-id l = AreNamed (clauses_with l.cnf.clauses l.whole) l.draft.clauses l.draft.ids
