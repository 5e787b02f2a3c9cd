use Rattle.std.proofs.Common.{◌≡◌, drop, map, ◌∷◌, [], true, neg_ℤ}
use Rattle.proof_semantics.specs.Clauses.{with_literals}
use Rattle.proof_semantics.specs.NetClauses.{literal_at, literals_of_row}
use Rattle.cnf_core.proofs.table_clauses.row_clause.Given as goal

-- with the negations of the literals that are left, the clause is whole
abbrev pub invariant-loop-i : goal.invariant-loop-i
invariant-loop-i l =
    with_literals l.clause (map neg_ℤ (literals_of_row (drop l.i l.marks) (drop l.i l.pins)))
    ≡ with_literals (literal_at l.place true ∷ []) (map neg_ℤ (literals_of_row l.marks l.pins))
