use Rattle.std.proofs.Common.{ltb, not, sym, ◌∙◌}
use Rattle.net_core.proofs.Reading.{past_here, past_later}
use Rattle.net_core.proofs.undriven.first_undriven.Goals as goal

pub returns-then-is_some : goal.returns-then-is_some
returns-then-is_some c =
    past_here (λ s. not (ltb s c.args.count)) c.args.tables.now c.args.outputs.now _ c.loop-table.table-index c.table-item.result _ _ c.as_slice-table-items.ensures c.loop-table-test.true
    c.table-item.is (c.as_slice.ensures ∙ c.pins.ensures.value) c.first_past-undriven.ensures (sym c.is_some.ensures ∙ c.if-is_some.true)
    ∙ c.loop-table.invariant

pub loop-table-preserved : goal.loop-table-preserved
loop-table-preserved c =
    past_later (λ s. not (ltb s c.args.count)) c.args.tables.now c.args.outputs.now _ c.loop-table.table-index c.table-item.result _ _ c.as_slice-table-items.ensures c.loop-table-test.true
    c.table-item.is (c.as_slice.ensures ∙ c.pins.ensures.value) c.first_past-undriven.ensures (sym c.is_some.ensures ∙ c.if-is_some.false)
    ∙ c.loop-table.invariant
