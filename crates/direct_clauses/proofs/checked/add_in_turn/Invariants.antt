use Rattle.std.proofs.Common.{◌+◌, drop}
use Rattle.proof_semantics.specs.Logs.{AddsInTurn}
use Rattle.direct_clauses.proofs.checked.add_in_turn.Given as goal

-- where the items that are left are in turn, all are
abbrev pub invariant-loop-i : goal.invariant-loop-i
invariant-loop-i l = AddsInTurn l.variables (l.last + l.i) (drop l.i l.items) → AddsInTurn l.variables l.last l.items
