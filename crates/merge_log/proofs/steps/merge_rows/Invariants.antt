use Rattle.std.proofs.Common.{◌≡◌, ◌+◌, List, drop, sum_by}
use Rattle.semantics.specs.declared.mark.Mark.{Mark}
use Rattle.semantics.specs.Net.{row_literals}
use Rattle.proof_semantics.specs.NetClauses.{rows_clauses}
use Rattle.merge_log.specs.Ids.{HaveIds}
use Rattle.merge_log.specs.Steps.{Adds, row_pairs}
use Rattle.merge_log.proofs.steps.merge_rows.Given as goal

-- the rows before are made equal, and the clauses of those that are left stand from two ids on
abbrev pub invariant-loop-j : goal.invariant-loop-j
invariant-loop-j l = record {
  adds : Adds l.goal l.initial.log l.log (row_pairs l.pair.own.place.row l.pair.other.place.row l.j);
  clauses : HaveIds l.goal.clauses l.id (rows_clauses (l.pair.own.place.row + l.j) l.pair.own.pins.now (drop l.j l.pair.rows.now));
  other_clauses : HaveIds l.goal.clauses l.behind (rows_clauses (l.pair.other.place.row + l.j) l.pair.other.pins.now (drop l.j l.pair.rows.now));
  few : l.id + sum_by (λ (m : List Mark). row_literals m + 1) (drop l.j l.pair.rows.now) ≡ l.pair.own.place.clause + sum_by (λ (m : List Mark). row_literals m + 1) l.pair.rows.now;
  other_few : l.behind + sum_by (λ (m : List Mark). row_literals m + 1) (drop l.j l.pair.rows.now) ≡ l.pair.other.place.clause + sum_by (λ (m : List Mark). row_literals m + 1) l.pair.rows.now;
}
