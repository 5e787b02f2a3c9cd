use Rattle.std.proofs.Common.{◌≡◌, take}
use Rattle.net_tidy.specs.Places.{kept}
use Rattle.net_tidy.proofs.net_draft.table_list.Given as goal

abbrev pub invariant-loop-i : goal.invariant-loop-i
invariant-loop-i l = l.list ≡ kept (take l.i l.gone) (take l.i l.tables)
