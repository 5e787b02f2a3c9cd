use Rattle.std.proofs.Common.{◌≡◌, ◌+◌, ◌++◌, drop, sum_by}
use Rattle.proof_semantics.specs.Variables.{table_clause_count}
use Rattle.case_tree.specs.Cases.{first_ids}
use Rattle.case_tree.proofs.hints.first_ids.Given as goal

-- with the ids of the tables that are left, all of them are there
abbrev pub invariant-loop-t : goal.invariant-loop-t
invariant-loop-t l = record {
  pushed : l.firsts ++ first_ids l.next (drop l.t l.net.tables) ≡ first_ids 1 l.net.tables;
  ids : l.next + sum_by table_clause_count (drop l.t l.net.tables) ≡ 1 + sum_by table_clause_count l.net.tables;
}
