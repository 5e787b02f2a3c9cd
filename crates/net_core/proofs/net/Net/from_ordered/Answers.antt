use Rattle.std.proofs.Common.{length, subst, All}
use Rattle.semantics.specs.Net.{IsName, IsTable}
use Rattle.semantics.proofs.Ordered.{order-acyclic}
use Rattle.net_core.proofs.Changed.{IsBuilt-wired}
use Rattle.net_core.proofs.net.Net.from_ordered.Goals as goal

pub invariant_of-result : goal.invariant_of-result
invariant_of-result c = (
  IsBuilt-wired _ c.bytes.ensures.named (subst (All IsName) c.as_slice.ensures c.see_names.ensures) (subst (All IsTable) c.as_slice-2.ensures c.see_tables.ensures)
      c.requires.wired (order-acyclic (length c.args.inputs) c.args.tables c.args.order.items c.requires.order),
  c.requires.order,
)
