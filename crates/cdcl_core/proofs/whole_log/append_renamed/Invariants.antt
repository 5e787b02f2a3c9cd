use Rattle.std.proofs.Common.{◌≡◌, ◌++◌, map, take}
use Rattle.cdcl_core.specs.Rounds.{renamed}
use Rattle.cdcl_core.proofs.whole_log.append_renamed.Given as goal

abbrev pub invariant-loop-item : goal.invariant-loop-item
invariant-loop-item l = l.whole ≡ l.fn.whole ++ map (renamed l.ids) (take l.item-index l.items)
