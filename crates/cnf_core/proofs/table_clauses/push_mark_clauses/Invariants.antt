use Rattle.std.proofs.Common.{◌≡◌, drop, map, ◌++◌}
use Rattle.proof_semantics.specs.NetClauses.{literals_of_row, implication}
use Rattle.cnf_core.proofs.table_clauses.push_mark_clauses.Given as goal

-- with the clauses of the marks that are left, all of them are there
abbrev pub invariant-loop-i : goal.invariant-loop-i
invariant-loop-i l =
    l.clauses ++ map (implication l.place) (literals_of_row (drop l.i l.marks) (drop l.i l.pins))
    ≡ l.initial.clauses ++ map (implication l.place) (literals_of_row l.marks l.pins)
