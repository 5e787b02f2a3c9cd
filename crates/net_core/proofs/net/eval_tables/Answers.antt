use Rattle.std.proofs.Common.{get_or, refl, arith}
use Rattle.net_core.proofs.Eval.{known_none, member_within, pins_in, known_more, known_all}
use Rattle.net_core.proofs.net.eval_tables.Goals as goal

pub loop-i-init : goal.loop-i-init
loop-i-init c = known_none c.args.tables.now c.args.order.now c.args.x.now c.requires.order _ _ c.copy_from_slice.ensures.after

pub bounds-tables-at : goal.bounds-tables-at
bounds-tables-at c = member_within c.args.tables.now c.args.order.now c.args.x.now c.requires.order c.loop-i.i-index _ c.loop-i-test.true refl

pub value-value-requires : goal.value-value-requires
value-value-requires c =
    let within = member_within c.args.tables.now c.args.order.now c.args.x.now c.requires.order c.loop-i.i-index _ c.loop-i-test.true refl in
    pins_in c.args.tables.now c.args.order.now c.args.x.now c.requires.order _ _ _ within c.index-tables-at.is (omega (arith, c.requires.room))

pub bounds-vals-x : goal.bounds-vals-x
bounds-vals-x c =
    let within = member_within c.args.tables.now c.args.order.now c.args.x.now c.requires.order c.loop-i.i-index (get_or c.args.order.now c.loop-i.i-index 0) c.loop-i-test.true refl in
    omega (arith, within, c.requires.room)

pub loop-i-preserved : goal.loop-i-preserved
loop-i-preserved c =
    known_more c.args.tables.now c.args.order.now c.args.x.now c.requires.order c.loop-i.vals c.loop-i.i-index _ c.index-tables-at.result c.value-value.result
    c.loop-i-test.true refl c.index-tables-at.is (omega (arith, c.requires.room)) c.value-value.ensures c.loop-i.invariant

pub returns : goal.returns
returns c = known_all c.args.tables.now c.args.order.now c.args.x.now c.requires.order c.loop-i.vals c.loop-i.i-index c.loop-i-test.false c.loop-i.invariant
