use Rattle.std.proofs.Common.{◌-◌, length, []}
use Rattle.net_core.specs.Sorting.{IsSorting, IsSettled}
use Rattle.net_core.proofs.order.settle.Given as goal

-- nothing waits for the members before the next
abbrev pub invariant-loop-head : goal.invariant-loop-head
invariant-loop-head l = record {
  sorting : IsSorting l.inputs l.tables l.sorting;
  settled : IsSettled l.inputs l.tables l.sorting l.head [];
}

abbrev pub decreases-loop-head : goal.decreases-loop-head
decreases-loop-head l = length l.tables - l.head
