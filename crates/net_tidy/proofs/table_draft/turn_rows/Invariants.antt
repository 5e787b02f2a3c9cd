use Rattle.std.proofs.Common.{◌≡◌, ◌++◌, map, take, drop}
use Rattle.chain_semantics.specs.TidyRules.{with_marks_turned}
use Rattle.net_tidy.proofs.table_draft.turn_rows.Given as goal

abbrev pub invariant-loop-row : goal.invariant-loop-row
invariant-loop-row l = l.rows ≡ map (with_marks_turned l.s l.pins) (take l.row-index l.fn.rows) ++ drop l.row-index l.fn.rows
