use Rattle.std.proofs.Common.{◌≡◌, ◌∷◌}
use Rattle.proof_semantics.specs.NetClauses.{variables_from}
use Rattle.cnf_core.proofs.table_clauses.some_row_clause.Given as goal

-- the variables of the rows so far stand behind the literal
abbrev pub invariant-loop-j : goal.invariant-loop-j
invariant-loop-j l = l.clause ≡ l.literal ∷ variables_from l.first l.j
