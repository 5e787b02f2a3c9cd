use Rattle.std.proofs.Common.{ℕ, drop}
use Rattle.net_core.specs.Sorting.{IsSorting, IsSettled}
use Rattle.net_core.proofs.order.Sorting.visit_all.Given as goal

abbrev pub invariant-loop-i : goal.invariant-loop-i
invariant-loop-i l = record {
  sorting : IsSorting l.inputs l.tables l.self;
  settled : (head : ℕ) → IsSettled l.inputs l.tables l.initial.self head l.list → IsSettled l.inputs l.tables l.self head (drop l.i-index l.list);
}
