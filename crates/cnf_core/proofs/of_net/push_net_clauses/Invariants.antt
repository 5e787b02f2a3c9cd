use Rattle.std.proofs.Common.{◌≡◌, drop, length, ◌++◌, ◌+◌, sum_by}
use Rattle.semantics.specs.Net.{input_count, signal_count}
use Rattle.proof_semantics.specs.NetClauses.{tables_clauses}
use Rattle.proof_semantics.specs.Variables.{variable_count}
use Rattle.cnf_core.proofs.of_net.push_net_clauses.Given as goal

-- with the clauses of the tables that are left, all of them are there; their rows stand from the place `first` on
abbrev pub invariant-loop-t : goal.invariant-loop-t
invariant-loop-t l = record {
  pushed : l.clauses ++ tables_clauses (input_count l.net + l.t) l.first (drop l.t l.net.tables) ≡ l.initial.clauses ++ tables_clauses (input_count l.net) (signal_count l.net) l.net.tables;
  places : l.first + sum_by (λ t. length t.rows) (drop l.t l.net.tables) ≡ variable_count (input_count l.net) l.net.tables;
}
