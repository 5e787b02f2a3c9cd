use Rattle.std.proofs.Common.{◌≡◌, ◌++◌, map, take, drop}
use Rattle.chain_semantics.specs.TidyRules.{with_marks_joined}
use Rattle.net_tidy.proofs.table_draft.join_marks.Given as goal

abbrev pub invariant-loop-row : goal.invariant-loop-row
invariant-loop-row l = l.rows ≡ map (with_marks_joined l.p l.q) (take l.row-index l.fn.rows) ++ drop l.row-index l.fn.rows
