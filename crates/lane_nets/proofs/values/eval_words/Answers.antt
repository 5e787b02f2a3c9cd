use Rattle.std.proofs.Common.{length, get_or, refl, arith}
use Rattle.net_core.proofs.InOrder.{next_at, holds_all}
use Rattle.lane_nets.proofs.Evaluating.{IsValueFrom, values_none, values_more}
use Rattle.lane_nets.proofs.values.eval_words.Goals as goal

pub loop-i-init : goal.loop-i-init
loop-i-init c = values_none c.args.net.now c.order-i-items.result.now c.args.words.now c.order-i-items.ensures c.inputs-inputs.ensures.built.sound.acyclic

pub table-requires : goal.table-requires
table-requires c =
    let next = next_at (length c.args.net.now.inputs) c.args.net.now.tables c.order-i-items.result.now c.order-i-items.ensures c.loop-i.i-index
    (get_or c.order-i-items.result.now c.loop-i.i-index 0) c.loop-i-test.true refl in
    omega (arith, next.table)

pub loop-i-preserved : goal.loop-i-preserved
loop-i-preserved c =
    rw c.inputs-inputs.ensures.value
    (values_more c.args.net.now c.order-i-items.result.now c.args.words.now c.loop-i.words c.loop-i.i-index (get_or c.order-i-items.result.now c.loop-i.i-index 0)
    c.table_word-word.result c.table.result.now c.order-i-items.ensures c.inputs-inputs.ensures.built.sound.acyclic c.loop-i-test.true refl
    (omega (arith, c.requires)) c.table.ensures.value c.table_word-word.ensures c.loop-i.invariant)

pub returns : goal.returns
returns c =
    λ b x low inputs s within. holds_all (length c.args.net.now.inputs) c.args.net.now.tables c.order-i-items.result.now c.order-i-items.ensures
    (IsValueFrom c.args.net.now c.args.words.now) 0 c.loop-i.words c.loop-i.i-index c.loop-i-test.false c.loop-i.invariant s within b x low inputs

pub bounds-words-inputs : goal.bounds-words-inputs
bounds-words-inputs c =
    let next = next_at (length c.args.net.now.inputs) c.args.net.now.tables c.order-i-items.result.now c.order-i-items.ensures c.loop-i.i-index
    (get_or c.order-i-items.result.now c.loop-i.i-index 0) c.loop-i-test.true refl in
    omega (arith, next.table, c.requires)
