use Rattle.std.proofs.Common.{◌≡◌, take}
use Rattle.net_tidy.proofs.table_draft.row_list.Given as goal

abbrev pub invariant-loop-row : goal.invariant-loop-row
invariant-loop-row l = l.list ≡ take l.row-index l.rows
