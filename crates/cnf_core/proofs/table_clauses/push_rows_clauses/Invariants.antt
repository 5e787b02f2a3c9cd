use Rattle.std.proofs.Common.{◌≡◌, drop, ◌++◌, ◌+◌}
use Rattle.proof_semantics.specs.NetClauses.{rows_clauses}
use Rattle.cnf_core.proofs.table_clauses.push_rows_clauses.Given as goal

-- with the clauses of the rows that are left, all of them are there
abbrev pub invariant-loop-j : goal.invariant-loop-j
invariant-loop-j l = l.clauses ++ rows_clauses (l.first + l.j) l.pins (drop l.j l.rows) ≡ l.initial.clauses ++ rows_clauses l.first l.pins l.rows
