use Rattle.std.proofs.Common.{◌≡◌, ◌++◌, take}
use Rattle.net_parts.proofs.items.Items.push_copies.Given as goal

abbrev pub invariant-loop-item : goal.invariant-loop-item
invariant-loop-item g l = l.self ≡ l.initial.self ++ take l.item-index l.more
