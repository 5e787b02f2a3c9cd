use Rattle.std.proofs.Common.{◌+◌, ◌^◌, List, length, get_or, ap, ◌∙◌, arith}
use Rattle.semantics.specs.declared.mark.Mark.{Mark}
use Rattle.aiger_semantics.specs.Circuit.{negated}
use Rattle.aiger_semantics.specs.NetCircuit.{joined, row_inputs}
use Rattle.aiger_text.proofs.TableLines.{asked-length, next-row, next-row_fits, rows_opposed-more}
use Rattle.aiger_text.proofs.lines.oppose_rows.Goals as goal

pub joined-requires : goal.joined-requires
joined-requires c =
    let size = asked-length (λ s. get_or c.args.literals.now s 0) c.args.pins.now c.ask.new.asked.items c.args.rows.now c.loop-row.row-index c.row-item.result c.requires.widths c.loop-row-test.true
    c.row-item.is
    (c.in_ok-ask.ensures ∙ ap (λ (r : List Mark). row_inputs (λ s. get_or c.args.literals.now s 0) r c.args.pins.now) c.as_slice.ensures) in
    next-row_fits c.args.first c.loop-row.next c.args.rows.now c.loop-row.row-index (length c.deref.result.now) (2 ^ 31) c.row-item.result c.loop-row.invariant.next_is c.loop-row-test.true
    (ap length c.deref.ensures.value ∙ size) c.requires.fits

pub joins_of-next-requires : goal.joins_of-next-requires
joins_of-next-requires c =
    let size = asked-length (λ s. get_or c.args.literals.now s 0) c.args.pins.now c.ask.new.asked.items c.args.rows.now c.loop-row.row-index c.row-item.result c.requires.widths c.loop-row-test.true
    c.row-item.is
    (c.in_ok-ask.ensures ∙ ap (λ (r : List Mark). row_inputs (λ s. get_or c.args.literals.now s 0) r c.args.pins.now) c.as_slice.ensures) in
    let fits = next-row_fits c.args.first c.loop-row.next c.args.rows.now c.loop-row.row-index (length c.deref.result.now) (2 ^ 31) c.row-item.result c.loop-row.invariant.next_is c.loop-row-test.true
    (ap length c.deref.ensures.value ∙ size) c.requires.fits in
    omega (arith, fits, c.len.ensures, c.deref.ensures.len)

pub overflow_add-next : goal.overflow_add-next
overflow_add-next c =
    let size = asked-length (λ s. get_or c.args.literals.now s 0) c.args.pins.now c.ask.new.asked.items c.args.rows.now c.loop-row.row-index c.row-item.result c.requires.widths c.loop-row-test.true
    c.row-item.is
    (c.in_ok-ask.ensures ∙ ap (λ (r : List Mark). row_inputs (λ s. get_or c.args.literals.now s 0) r c.args.pins.now) c.as_slice.ensures) in
    let fits = next-row_fits c.args.first c.loop-row.next c.args.rows.now c.loop-row.row-index (length c.deref.result.now) (2 ^ 31) c.row-item.result c.loop-row.invariant.next_is c.loop-row-test.true
    (ap length c.deref.ensures.value ∙ size) c.requires.fits in
    omega (arith, fits, c.joins_of-next.ensures, c.len.ensures, c.deref.ensures.len)

pub loop-row-preserved : goal.loop-row-preserved
loop-row-preserved c =
    let asked = c.in_ok-ask.ensures ∙ ap (λ (r : List Mark). row_inputs (λ s. get_or c.args.literals.now s 0) r c.args.pins.now) c.as_slice.ensures in
    let size = asked-length (λ s. get_or c.args.literals.now s 0) c.args.pins.now c.ask.new.asked.items c.args.rows.now c.loop-row.row-index c.row-item.result c.requires.widths c.loop-row-test.true
    c.row-item.is asked in
    let next = next-row c.args.first c.loop-row.next c.args.rows.now c.loop-row.row-index (length c.deref.result.now) c.row-item.result c.loop-row.invariant.next_is c.loop-row-test.true
    (ap length c.deref.ensures.value ∙ size) in
    rows_opposed-more (λ s. get_or c.args.literals.now s 0) c.args.pins.now c.args.first c.args.rows.now c.loop-row.row-index c.loop-row.next c.loop-row.opposites.items c.push.new.self.items
    c.row-item.result
    c.ask.new.asked.items c.negated.result (c.loop-row.next + c.joins_of-next.result) c.loop-row.invariant c.loop-row-test.true c.row-item.is asked
    (c.negated.ensures ∙ ap negated (c.joined.ensures ∙ ap (joined c.loop-row.next) c.deref.ensures.value)) c.in_ok-push.ensures.items
    (omega (arith, next, c.joins_of-next.ensures, c.len.ensures, c.deref.ensures.len))
