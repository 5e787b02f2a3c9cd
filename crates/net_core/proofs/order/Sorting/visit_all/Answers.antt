use Rattle.std.proofs.Common.{subst, ◌+◌, drop}
use Rattle.std.proofs.lemmas.List.{drop_more, drop_all}
use Rattle.net_core.specs.Sorting.{IsSettled}
use Rattle.net_core.proofs.order.Sorting.visit_all.Goals as goal

pub loop-i-preserved : goal.loop-i-preserved
loop-i-preserved c =
    let i = c.loop-i.i-index in
    let list = c.args.list.now in
    record {
      sorting = c.in_ok-visit.ensures.sorting;
      settled = λ head s.
          c.in_ok-visit.ensures.settled head (drop (i + 1) list)
          (subst (IsSettled c.args.inputs c.args.tables.now c.loop-i.self head) (drop_more list i 0 c.loop-i-test.true) (c.loop-i.invariant.settled head s));
    }

pub returns-clause-settled : goal.returns-clause-settled
returns-clause-settled c = λ head s.
    let list = c.args.list.now in
    subst (IsSettled c.args.inputs c.args.tables.now c.loop-i.self head) (drop_all c.loop-i.i-index list c.loop-i-test.false) (c.loop-i.invariant.settled head s)
