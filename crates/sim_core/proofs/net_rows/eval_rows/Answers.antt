use Rattle.std.proofs.Common.{[], length, get_or, refl, arith}
use Rattle.semantics.specs.Value.{value_of}
use Rattle.net_core.proofs.InOrder.{next_at, holds_all}
use Rattle.lane_bits.specs.Rows.{word_count}
use Rattle.sim_core.proofs.NetValues.{IsSignalRow, wide_step, rows_none, rows_step}
use Rattle.sim_core.proofs.net_rows.eval_rows.Goals as goal

pub loop-i-init : goal.loop-i-init
loop-i-init c = record {
  room = c.requires.room;
  wide = c.requires.wide;
  rows = λ vectors same inputs. rows_none c.args.net.now vectors c.args.count same c.order-i-items.result.now c.inputs-inputs.ensures.built.sound.acyclic c.order-i-items.ensures c.args.rows.now
      inputs;
}

pub table-requires : goal.table-requires
table-requires c =
    let next = next_at (length c.args.net.now.inputs) c.args.net.now.tables c.order-i-items.result.now c.order-i-items.ensures c.loop-i.i-index
    (get_or c.order-i-items.result.now c.loop-i.i-index 0) c.loop-i-test.true refl in
    omega (arith, next.table)

pub set_table_row-requires-clause-signal : goal.set_table_row-requires-clause-signal
set_table_row-requires-clause-signal c =
    let next = next_at (length c.args.net.now.inputs) c.args.net.now.tables c.order-i-items.result.now c.order-i-items.ensures c.loop-i.i-index
    (get_or c.order-i-items.result.now c.loop-i.i-index 0) c.loop-i-test.true refl in
    omega (arith, next.table, c.requires.rows, c.loop-i.auto.rows, c.inputs-inputs.ensures.value)

pub loop-i-preserved : goal.loop-i-preserved
loop-i-preserved c = record {
  room = c.set_table_row.ensures.room;
  wide = wide_step (word_count c.args.count) c.loop-i.rows c.set_table_row.new.rows _ c.set_table_row.ensures.others c.set_table_row.ensures.row.words c.loop-i.invariant.wide;
  rows = λ vectors same inputs.
      rows_step c.args.net.now vectors c.args.count same c.order-i-items.result.now c.inputs-inputs.ensures.built.sound.acyclic c.order-i-items.ensures c.loop-i.rows c.set_table_row.new.rows
      c.loop-i.i-index
      (get_or c.order-i-items.result.now c.loop-i.i-index 0) _ c.table.result.now c.loop-i-test.true refl (omega (arith, c.inputs-inputs.ensures.value))
      (omega (arith, c.requires.rows, c.loop-i.auto.rows))
      c.table.ensures.value c.set_table_row.ensures.others c.set_table_row.ensures.row (c.loop-i.invariant.rows vectors same inputs);
}

pub returns-clause-rows : goal.returns-clause-rows
returns-clause-rows c =
    λ vectors same inputs s within. holds_all (length c.args.net.now.inputs) c.args.net.now.tables c.order-i-items.result.now c.order-i-items.ensures
    (IsSignalRow vectors (value_of (length c.args.net.now.inputs) c.args.net.now.tables)) [] c.loop-i.rows c.loop-i.i-index c.loop-i-test.false (c.loop-i.invariant.rows vectors same inputs) s within
