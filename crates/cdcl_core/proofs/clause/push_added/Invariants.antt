use Rattle.std.proofs.Common.{◌≡◌, ◌++◌, drop}
use Rattle.proof_semantics.specs.Conflicts.{added_clauses}
use Rattle.cdcl_core.proofs.clause.push_added.Given as goal

-- with the clauses of the items that are left, all are there
abbrev pub invariant-loop-item : goal.invariant-loop-item
invariant-loop-item l = l.clauses.list ++ added_clauses (drop l.item-index l.items) ≡ l.initial.clauses.list ++ added_clauses l.items
