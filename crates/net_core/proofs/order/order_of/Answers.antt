use Rattle.std.proofs.Common.{arith, sym, subst}
use Rattle.semantics.specs.Order.{IsOrderOf}
use Rattle.net_core.proofs.Sorting.{all_placed, first_free}
use Rattle.net_core.proofs.order.order_of.Goals as goal

pub returns-in-Some : goal.returns-in-Some
returns-in-Some c =
    let free = c.in-Some.ensures in
    first_free c.args.inputs c.args.tables.now c.in_ok-sorting.sorting c.in-Some.i c.in_ok-sorting.ensures.sorting c.in_ok-sorting.ensures.settled (omega (arith, free.0)) free.1 free.2

pub returns-in-None : goal.returns-in-None
returns-in-None c =
    subst (IsOrderOf c.args.inputs c.args.tables.now) (sym c.into_order.ensures)
    (all_placed c.args.inputs c.args.tables.now c.in_ok-sorting.sorting c.in_ok-sorting.ensures.sorting (λ i low. c.in-None.ensures i (omega (arith, low))))
