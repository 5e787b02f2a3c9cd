use Rattle.std.proofs.Common.{◌-◌, get_or, false, refl, arith}
use Rattle.semantics.specs.Net.{input_count}
use Rattle.semantics.specs.Value.{Assignment}
use Rattle.case_tree.proofs.Steps.{order-within, table_last}
use Rattle.case_tree.proofs.hints.push_tables.Goals as goal

pub push_table-requires-clause-table : goal.push_table-requires-clause-table
push_table-requires-clause-table c =
    order-within (input_count c.args.net.now) c.args.net.now.tables c.args.order.now (c.loop-left.left - 1) 0 c.requires.order (omega (arith, c.loop-left-test.true, c.loop-left.invariant.within))

pub loop-left-preserved : goal.loop-left-preserved
loop-left-preserved c =
    let v : Assignment = λ s. get_or c.args.values.now s false in
    let next =
    table_last (input_count c.args.net.now) c.args.net.now.tables v c.args.needed.now c.args.order.now c.loop-left.left (get_or c.args.order.now (c.loop-left.left - 1) 0)
    c.loop-left.needed c.push_table.new.needed c.loop-left.hints.items c.push_table.new.hints.items c.loop-left-test.true c.loop-left.invariant.within refl
    c.loop-left.invariant.needed c.loop-left.invariant.pushed c.in_ok-push_table.ensures.asked c.in_ok-push_table.ensures.hints in
    record {
      within = omega (arith, c.loop-left.invariant.within);
      needed = next.0;
      pushed = next.1;
    }
