use Rattle.std.proofs.Common.{ℕ, length, get_or, List, refl, subst, ◌∙◌, arith}
use Rattle.semantics.specs.Order.{IsOrderOf}
use Rattle.aig_core.specs.Tables.{IsTableOf}
use Rattle.aig_core.proofs.Growing.{grows_refl}
use Rattle.aig_core.proofs.Signals.{table_within, signals_none, signals_more, signals_all}
use Rattle.aig_core.proofs.nets.signal_literals.Goals as goal

pub loop-t-init : goal.loop-t-init
loop-t-init c =
    let is : IsOrderOf (length c.args.inputs.now) c.args.net.now.tables c.order-t-items.result.now = rw c.requires.count c.order-t-items.ensures in
    signals_none c.args.net.now.tables c.order-t-items.result.now c.args.inputs.now is c.args.g.now c.args.g.now c.in_ok-signals.signals.items (grows_refl c.args.g.now)
    (c.in_ok-signals.ensures.length ∙ c.signals.ensures.value ∙ (rw c.requires.count refl)) (c.in_ok-signals.ensures.within c.args.g.now c.requires.within) c.in_ok-signals.ensures.same

pub table-requires : goal.table-requires
table-requires c =
    let is : IsOrderOf (length c.args.inputs.now) c.args.net.now.tables c.order-t-items.result.now = rw c.requires.count c.order-t-items.ensures in
    table_within c.args.net.now.tables c.order-t-items.result.now c.args.inputs.now is c.loop-t.t-index _ c.loop-t-test.true refl

pub index_mut-requires : goal.index_mut-requires
index_mut-requires c =
    let is : IsOrderOf (length c.args.inputs.now) c.args.net.now.tables c.order-t-items.result.now = rw c.requires.count c.order-t-items.ensures in
    let within = table_within c.args.net.now.tables c.order-t-items.result.now c.args.inputs.now is c.loop-t.t-index (get_or c.order-t-items.result.now c.loop-t.t-index 0) c.loop-t-test.true refl in
    omega (arith, within, c.loop-t.invariant.size)

pub loop-t-preserved : goal.loop-t-preserved
loop-t-preserved c =
    let is : IsOrderOf (length c.args.inputs.now) c.args.net.now.tables c.order-t-items.result.now = rw c.requires.count c.order-t-items.ensures in
    signals_more c.args.net.now.tables c.order-t-items.result.now c.args.inputs.now is c.args.g.now c.loop-t.g c.table_literal.new.g c.loop-t.signals.items c.loop-t.t-index _
    c.table.result.now c.in_ok-literal.literal c.loop-t-test.true refl c.table.ensures.value c.loop-t.invariant c.in_ok-literal.ensures.grows
    (subst (λ (signals : List ℕ). IsTableOf c.table_literal.new.g c.table.result.now signals c.in_ok-literal.literal) c.deref.ensures.value c.in_ok-literal.ensures.ok)

pub returns-clause-signals : goal.returns-clause-signals
returns-clause-signals c =
    let is : IsOrderOf (length c.args.inputs.now) c.args.net.now.tables c.order-t-items.result.now = rw c.requires.count c.order-t-items.ensures in
    signals_all c.args.net.now.tables c.order-t-items.result.now c.args.inputs.now is c.args.g.now c.loop-t.g c.loop-t.signals.items c.loop-t.t-index c.loop-t-test.false c.loop-t.invariant
