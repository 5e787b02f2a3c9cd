use Rattle.std.proofs.Common.{◌-◌}
use Rattle.std.specs.List.{range_with_len}
use Rattle.net_core.specs.Sorting.{IsSorting, IsSettled}
use Rattle.net_core.proofs.order.visited.Given as goal

-- the tables from table i on are in hand
abbrev pub invariant-loop-i : goal.invariant-loop-i
invariant-loop-i l = record {
  sorting : IsSorting l.inputs l.tables l.sorting;
  settled : IsSettled l.inputs l.tables l.sorting 0 (range_with_len l.i (l.count - l.i));
}
