use Rattle.std.proofs.Common.{◌≡◌, take}
use Rattle.direct_clauses.proofs.log_copy.log_copy.Given as goal

abbrev pub invariant-loop-item : goal.invariant-loop-item
invariant-loop-item l = l.copy ≡ take l.item-index l.items
