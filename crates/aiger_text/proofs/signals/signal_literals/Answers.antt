use Rattle.std.proofs.Common.{◌+◌, ◌^◌, ℕ, List, get_or, refl, ap, ◌∙◌, arith}
use Rattle.std.specs.Prelude.{slice_set}
use Rattle.semantics.specs.Net.{input_count}
use Rattle.aiger_semantics.specs.NetCircuit.{table_literal}
use Rattle.aiger_text.proofs.NetLiterals.{first_read, first_fits, firsts_length, signals_none, member_within, signals_more, signals_all}
use Rattle.aiger_text.proofs.signals.signal_literals.Goals as goal

pub loop-t-init : goal.loop-t-init
loop-t-init c =
    signals_none (input_count c.args.net.now) c.args.net.now.tables c.order-t-items.result.now c.order-t-items.ensures c.in_ok-literals.literals.items
    (c.in_ok-literals.ensures.room ∙ c.signals.ensures.value) (λ s low. c.in_ok-literals.ensures.inputs s (omega arith))

pub table-requires : goal.table-requires
table-requires c = member_within (input_count c.args.net.now) c.args.net.now.tables c.order-t-items.result.now c.order-t-items.ensures c.loop-t.t-index _ c.loop-t-test.true refl

pub bounds-firsts-at : goal.bounds-firsts-at
bounds-firsts-at c =
    let within = member_within (input_count c.args.net.now) c.args.net.now.tables c.order-t-items.result.now c.order-t-items.ensures c.loop-t.t-index
    (get_or c.order-t-items.result.now c.loop-t.t-index 0) c.loop-t-test.true refl in
    let size = firsts_length (input_count c.args.net.now) c.args.net.now.tables c.args.firsts.now c.requires.firsts in
    omega (arith, within, size)

pub table_literal-requires-clause-fits : goal.table_literal-requires-clause-fits
table_literal-requires-clause-fits c =
    let within = member_within (input_count c.args.net.now) c.args.net.now.tables c.order-t-items.result.now c.order-t-items.ensures c.loop-t.t-index
    (get_or c.order-t-items.result.now c.loop-t.t-index 0) c.loop-t-test.true refl in
    first_fits (input_count c.args.net.now) c.args.net.now.tables (get_or c.order-t-items.result.now c.loop-t.t-index 0) 0 _ c.args.firsts.now c.table.result.now (2 ^ 31) within c.requires.firsts
    refl c.table.ensures.value
    c.requires.fits

pub index_mut-requires : goal.index_mut-requires
index_mut-requires c =
    let within = member_within (input_count c.args.net.now) c.args.net.now.tables c.order-t-items.result.now c.order-t-items.ensures c.loop-t.t-index
    (get_or c.order-t-items.result.now c.loop-t.t-index 0) c.loop-t-test.true refl in
    omega (arith, within, c.loop-t.invariant.size)

pub loop-t-preserved : goal.loop-t-preserved
loop-t-preserved c =
    let at : ℕ = get_or c.order-t-items.result.now c.loop-t.t-index 0 in
    let first : ℕ = get_or c.args.firsts.now (get_or c.order-t-items.result.now c.loop-t.t-index 0) 0 in
    let within = member_within (input_count c.args.net.now) c.args.net.now.tables c.order-t-items.result.now c.order-t-items.ensures c.loop-t.t-index
    (get_or c.order-t-items.result.now c.loop-t.t-index 0) c.loop-t-test.true refl in
    signals_more (input_count c.args.net.now) c.args.net.now.tables c.order-t-items.result.now c.order-t-items.ensures c.loop-t.literals.items _ c.loop-t.t-index at first c.in_ok-literal.literal
    c.table.result.now
    c.loop-t.invariant c.loop-t-test.true refl c.table.ensures.value
    (first_read (input_count c.args.net.now) c.args.net.now.tables at 0 first c.args.firsts.now within c.requires.firsts refl)
    (c.in_ok-literal.ensures ∙ ap (λ (ls : List ℕ). table_literal (λ s. get_or ls s 0) first c.table.result.now) c.deref.ensures.value)
    (ap (λ k. slice_set c.loop-t.literals.items (k + at) c.in_ok-literal.literal) c.inputs-inputs.ensures.value)

pub returns-clause-values : goal.returns-clause-values
returns-clause-values c =
    signals_all (input_count c.args.net.now) c.args.net.now.tables c.order-t-items.result.now c.order-t-items.ensures c.loop-t.literals.items c.loop-t.t-index c.loop-t-test.false c.loop-t.invariant
