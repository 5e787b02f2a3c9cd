use Rattle.std.proofs.Common.{◌≡◌, ◌<◌, List, set, length, ap, sym, subst, ◌∙◌}
use Rattle.semantics.specs.Net.{TableValue, NetValue, input_count, table_count}
use Rattle.semantics.specs.Order.{IsOrderOf}
use Rattle.net_core.proofs.Changed.{IsWired-with_table}
use Rattle.net_core.proofs.Places.{known_here, order_here, order-replaced}
use Rattle.net_core.proofs.net.Net.with_table.Goals as goal

pub with_tables-requires-clause-wired : goal.with_tables-requires-clause-wired
with_tables-requires-clause-wired c =
    let is : c.in_ok-tables.tables ≡ set c.args.self.now.tables c.args.t c.args.table = c.in_ok-tables.ensures ∙ ap (λ (N : NetValue). set N.tables c.args.t c.args.table) c.self.view_is in
    IsWired-with_table c.args.self.now _ c.args.t c.args.table c.requires.within c.inputs-inputs.ensures.built c.requires.same_name (ap (λ ts. record c.args.self.now { tables = ts }) is)

pub with_tables-requires-clause-order : goal.with_tables-requires-clause-order
with_tables-requires-clause-order c =
    let n : length c.self.inside.inputs ≡ input_count c.args.self.now = ap input_count c.self.view_is in
    let within : c.args.t < length c.self.inside.tables = subst (λ (N : NetValue). c.args.t < table_count N) (sym c.self.view_is) c.requires.within in
    let known = known_here (length c.self.inside.inputs) c.inputs-inputs.result c.args.t c.self.inside.order.items c.deref.result.now c.args.table.pins c.as_slice.result.now
    (c.inputs-inputs.ensures.value ∙ sym n) c.deref.ensures.value (c.as_slice.ensures ∙ c.pins.ensures.value) (c.are_known_at-known.ensures c.if-known.true) in
    subst (IsOrderOf (input_count c.args.self.now) c.in_ok-tables.tables) (sym (c.in_ok-order.ensures.items ∙ c.deref-then-known.ensures.value))
    (order_here (input_count c.args.self.now) (length c.self.inside.inputs) c.in_ok-tables.tables (set c.self.inside.tables c.args.t c.args.table) c.self.inside.order.items n
    (sym c.in_ok-tables.ensures)
    (order-replaced (length c.self.inside.inputs) c.self.inside.tables c.args.t c.args.table within c.self.inside.order.items c.self.invariant.1 known))

pub with_tables-requires-2-clause-wired : goal.with_tables-requires-2-clause-wired
with_tables-requires-2-clause-wired c =
    let is : c.in_ok-tables.tables ≡ set c.args.self.now.tables c.args.t c.args.table = c.in_ok-tables.ensures ∙ ap (λ (N : NetValue). set N.tables c.args.t c.args.table) c.self.view_is in
    IsWired-with_table c.args.self.now _ c.args.t c.args.table c.requires.within c.inputs-inputs.ensures.built c.requires.same_name (ap (λ ts. record c.args.self.now { tables = ts }) is)
