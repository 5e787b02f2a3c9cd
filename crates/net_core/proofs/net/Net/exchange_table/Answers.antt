use Rattle.std.proofs.Common.{◌≡◌, ◌<◌, List, set, length, ap, sym, subst, ◌∙◌}
use Rattle.semantics.specs.Net.{TableValue, NetValue, input_count, table_count}
use Rattle.semantics.specs.Order.{IsOrderOf}
use Rattle.net_core.specs.Built.{IsBuilt}
use Rattle.net_core.proofs.Places.{exchanged, known_here, order_here, order-replaced, put_back}
use Rattle.net_core.proofs.net.Net.exchange_table.Goals as goal

pub invariant_of-self : goal.invariant_of-self
invariant_of-self c =
    let within : c.args.t < length c.self.inside.tables = subst (λ (N : NetValue). c.args.t < table_count N) (sym c.self.view_is) c.requires.within in
    let known = known_here (length c.self.inside.inputs) c.len-inputs.result c.args.t c.self.inside.order.items c.deref.result.now c.args.table.pins c.as_slice.result.now
    c.len-inputs.ensures c.deref.ensures.value (c.as_slice.ensures ∙ c.pins.ensures.value) (c.are_known_at-known.ensures c.if-known.true) in (
      exchanged (record { model = c.self.inside.model; inputs = c.self.inside.inputs; tables = c.self.inside.tables; outputs = c.self.inside.outputs }) c.args.self.now c.args.t c.args.table
          c.replace-before.new.self c.self.view_is c.self.invariant.0 c.requires.within c.pins.ensures.formed c.requires.same_name c.requires.acyclic c.replace-before.ensures.put,
      subst (λ (ts : List TableValue). IsOrderOf (length c.self.inside.inputs) ts c.self.inside.order.items) (sym c.replace-before.ensures.put)
          (order-replaced (length c.self.inside.inputs) c.self.inside.tables c.args.t c.args.table within c.self.inside.order.items c.self.invariant.1 known),
    )

pub invariant_of-self-in-Ok : goal.invariant_of-self-in-Ok
invariant_of-self-in-Ok c = (
  exchanged (record { model = c.self.inside.model; inputs = c.self.inside.inputs; tables = c.self.inside.tables; outputs = c.self.inside.outputs }) c.args.self.now c.args.t c.args.table
      c.replace-before.new.self c.self.view_is c.self.invariant.0 c.requires.within c.pins.ensures.formed c.requires.same_name c.requires.acyclic c.replace-before.ensures.put,
  order_here (length c.self.inside.inputs) c.len-inputs.result c.replace-before.new.self c.as_slice-2.result.now c.in-Ok.order.items c.len-inputs.ensures c.as_slice-2.ensures c.in-Ok.ensures,
)

pub invariant_of-self-in-Err : goal.invariant_of-self-in-Err
invariant_of-self-in-Err c =
    let back : c.replace.new.self ≡ c.self.inside.tables = put_back c.self.inside.tables c.replace-before.new.self c.replace.new.self c.args.t c.replace-before.result c.args.table
    c.replace-before.ensures.taken c.replace-before.ensures.put c.replace.ensures.put in
    subst (λ (ts : List TableValue). IsBuilt (record { model = c.self.inside.model; inputs = c.self.inside.inputs; tables = ts; outputs = c.self.inside.outputs })
    × IsOrderOf (length c.self.inside.inputs) ts c.self.inside.order.items) (sym back) c.self.invariant

pub returns-in-Err-clause-err : goal.returns-in-Err-clause-err
returns-in-Err-clause-err c =
    let back : c.replace.new.self ≡ c.self.inside.tables = put_back c.self.inside.tables c.replace-before.new.self c.replace.new.self c.args.t c.replace-before.result c.args.table
    c.replace-before.ensures.taken c.replace-before.ensures.put c.replace.ensures.put in
    let same : record { model = c.self.inside.model; inputs = c.self.inside.inputs; tables = c.replace.new.self; outputs = c.self.inside.outputs }
    ≡ record { model = c.self.inside.model; inputs = c.self.inside.inputs; tables = c.self.inside.tables; outputs = c.self.inside.outputs } =
    ap (λ (ts : List TableValue). record { model = c.self.inside.model; inputs = c.self.inside.inputs; tables = ts; outputs = c.self.inside.outputs }) back in
    same ∙ c.self.view_is
