use Rattle.std.proofs.Common.{[], length, get_or, refl, ap, ◌∙◌, arith}
use Rattle.net_core.proofs.InOrder.{next_at, holds_all}
use Rattle.lane_nets.specs.Words.{word_bit}
use Rattle.lane_nets.proofs.WideWords.{IsWideFrom, wides_none, wides_more, lane_words_get}
use Rattle.lane_nets.proofs.wide_words.eval_wides.Goals as goal

pub loop-i-init : goal.loop-i-init
loop-i-init c = wides_none c.args.net.now c.order-i-items.result.now c.args.wides.now c.order-i-items.ensures c.inputs-inputs.ensures.built.sound.acyclic

pub table-requires : goal.table-requires
table-requires c =
    let next = next_at (length c.args.net.now.inputs) c.args.net.now.tables c.order-i-items.result.now c.order-i-items.ensures c.loop-i.i-index
    (get_or c.order-i-items.result.now c.loop-i.i-index 0) c.loop-i-test.true refl in
    omega (arith, next.table)

pub loop-i-preserved : goal.loop-i-preserved
loop-i-preserved c =
    rw c.inputs-inputs.ensures.value
    (wides_more c.args.net.now c.order-i-items.result.now c.args.wides.now c.loop-i.wides c.loop-i.i-index (get_or c.order-i-items.result.now c.loop-i.i-index 0)
    c.table_wide-wide.result c.table.result.now c.order-i-items.ensures c.inputs-inputs.ensures.built.sound.acyclic c.loop-i-test.true refl
    (omega (arith, c.requires)) c.table.ensures.value c.table_wide-wide.ensures c.loop-i.invariant)

pub returns : goal.returns
returns c =
    λ j b x lane low inputs s within. ap (λ w. word_bit w b) (lane_words_get c.loop-i.wides j s)
    ∙ holds_all (length c.args.net.now.inputs) c.args.net.now.tables c.order-i-items.result.now c.order-i-items.ensures
    (IsWideFrom c.args.net.now c.args.wides.now) [] c.loop-i.wides c.loop-i.i-index c.loop-i-test.false c.loop-i.invariant s within j b x lane low inputs

pub bounds-wides-inputs : goal.bounds-wides-inputs
bounds-wides-inputs c =
    let next = next_at (length c.args.net.now.inputs) c.args.net.now.tables c.order-i-items.result.now c.order-i-items.ensures c.loop-i.i-index
    (get_or c.order-i-items.result.now c.loop-i.i-index 0) c.loop-i-test.true refl in
    omega (arith, next.table, c.requires)
