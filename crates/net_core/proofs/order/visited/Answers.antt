use Rattle.std.proofs.Common.{arith, ◌-◌, ◌+◌, subst}
use Rattle.std.specs.List.{range_with_len}
use Rattle.net_core.specs.Sorting.{IsSettled}
use Rattle.net_core.proofs.Sorting.{IsSorting-start, IsSettled-start, range-next}
use Rattle.net_core.proofs.order.visited.Goals as goal

pub loop-i-init : goal.loop-i-init
loop-i-init c = record {
  sorting = IsSorting-start c.args.inputs c.args.tables.now c.in_ok-sorting.sorting c.in_ok-sorting.ensures;
  settled = IsSettled-start c.args.inputs c.args.tables.now c.in_ok-sorting.sorting (c.args.count - 0) (omega (arith, c.requires.count));
}

pub loop-i-preserved : goal.loop-i-preserved
loop-i-preserved c =
    let i = c.loop-i.i in
    let m = c.args.count in
    record {
      sorting = c.in_ok-visit.ensures.sorting;
      settled =
          c.in_ok-visit.ensures.settled 0 (range_with_len (i + 1) (m - (i + 1)))
          (subst (IsSettled c.args.inputs c.args.tables.now c.loop-i.sorting 0) (range-next i m c.loop-i-test.true) c.loop-i.invariant.settled);
    }
