use Rattle.std.proofs.Common.{◌≡◌, ◌++◌}
use Rattle.proof_semantics.specs.NetClauses.{implications}
use Rattle.cnf_core.proofs.table_clauses.push_implications.Given as goal

-- the clauses of the rows so far were pushed
abbrev pub invariant-loop-j : goal.invariant-loop-j
invariant-loop-j l = l.clauses ≡ l.initial.clauses ++ implications l.first l.j l.literal
