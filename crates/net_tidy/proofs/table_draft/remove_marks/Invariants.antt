use Rattle.std.proofs.Common.{◌≡◌, ◌++◌, map, take, drop}
use Rattle.std.specs.List.{remove}
use Rattle.net_tidy.proofs.table_draft.remove_marks.Given as goal

abbrev pub invariant-loop-row : goal.invariant-loop-row
invariant-loop-row l = l.rows ≡ map (λ marks. remove marks l.q) (take l.row-index l.fn.rows) ++ drop l.row-index l.fn.rows
