use Rattle.std.proofs.Common.{◌+◌, [], length, get_or, refl, ◌∙◌, arith}
use Rattle.net_core.proofs.InOrder.{next_at, holds_all}
use Rattle.chain_semantics.specs.Flips.{flipped_values}
use Rattle.lane_bits.specs.Rows.{word_count}
use Rattle.sim_core.proofs.NetValues.{IsSignalRow, wide_step, other_step, flipping_start, flipping_kept, flipping_step, is_other, is_marked, unmarked_other, table_marked, left_out}
use Rattle.sim_core.proofs.net_rows.flip_rows.Goals as goal
use Rattle.sim_core.proofs.net_rows.flip_rows.Goals.{then-is_found_again, else-is_found_again}

pub loop-i-init : goal.loop-i-init
loop-i-init c =
    let place = c.inputs-inputs.result + c.args.t in
    record {
      room = c.flip_row.ensures.room;
      wide = wide_step (word_count c.args.count) c.args.rows.now c.flip_row.new.rows place c.flip_row.ensures.others c.flip_row.ensures.row.words c.requires.wide;
      others = λ s within clear.
          other_step c.args.rows.now c.flip_row.new.rows place s c.flip_row.ensures.others
          (unmarked_other c.args.marks.now place s
          (table_marked c.args.net.now c.args.t place c.args.marks.now c.requires.table (omega (arith, c.inputs-inputs.ensures.value)) c.requires.marks) clear);
      flipped = λ vectors same values.
          flipping_start c.args.net.now vectors c.args.count same c.order-i-items.result.now c.inputs-inputs.ensures.built.sound.acyclic c.order-i-items.ensures c.args.t c.requires.table
          c.args.rows.now values
          c.flip_row.new.rows place (omega (arith, c.inputs-inputs.ensures.value)) (omega (arith, c.requires.rows)) c.flip_row.ensures.others c.flip_row.ensures.row;
    }

pub bounds-marks-s : goal.bounds-marks-s
bounds-marks-s c =
    let next = next_at (length c.args.net.now.inputs) c.args.net.now.tables c.order-i-items.result.now c.order-i-items.ensures c.loop-i.i-index
    (get_or c.order-i-items.result.now c.loop-i.i-index 0) c.loop-i-test.true refl in
    omega (arith, next.table, c.requires.marks_room, c.inputs-inputs.ensures.value)

pub loop-i-preserved : goal.loop-i-preserved
loop-i-preserved c =
    let i = get_or c.order-i-items.result.now c.loop-i.i-index 0 in
    let place = c.inputs-inputs.result + i in
    let next = next_at (length c.args.net.now.inputs) c.args.net.now.tables c.order-i-items.result.now c.order-i-items.ensures c.loop-i.i-index i c.loop-i-test.true refl in
    elim c.if-is_found_again.branch [
      | then-is_found_again w ↦
          rw (w.rows-is, w.room-is)
          (record {
            room = w.set_table_row.ensures.room;
            wide = wide_step (word_count c.args.count) c.loop-i.rows w.set_table_row.new.rows place w.set_table_row.ensures.others w.set_table_row.ensures.row.words c.loop-i.invariant.wide;
            others = λ s within clear.
                other_step c.loop-i.rows w.set_table_row.new.rows place s w.set_table_row.ensures.others
                (unmarked_other c.args.marks.now place s (is_marked i c.args.t _ c.is_found_again.result c.is_found_again.ensures w.if-is_found_again.true) clear)
                ∙ c.loop-i.invariant.others s within clear;
            flipped = λ vectors same values.
                flipping_step c.args.net.now vectors c.args.count same c.order-i-items.result.now c.inputs-inputs.ensures.built.sound.acyclic c.order-i-items.ensures c.args.t c.requires.table
                c.args.rows.now
                values c.loop-i.i-index i c.loop-i.rows c.loop-i-test.true refl (c.loop-i.invariant.flipped vectors same values) w.set_table_row.new.rows place w.table.result.now
                (omega (arith, c.inputs-inputs.ensures.value)) (is_other i c.args.t _ c.is_found_again.result c.is_found_again.ensures w.if-is_found_again.true)
                (omega (arith, c.requires.rows, c.loop-i.auto.rows)) w.table.ensures.value w.set_table_row.ensures.others w.set_table_row.ensures.row;
          })
      | else-is_found_again w ↦
          rw (w.rows-is, w.room-is)
          (record {
            room = c.loop-i.invariant.room;
            wide = c.loop-i.invariant.wide;
            others = c.loop-i.invariant.others;
            flipped = λ vectors same values.
                flipping_kept c.args.net.now vectors c.args.count same c.order-i-items.result.now c.inputs-inputs.ensures.built.sound.acyclic c.order-i-items.ensures c.args.t c.requires.table
                c.args.rows.now
                values c.loop-i.i-index i c.loop-i.rows c.loop-i-test.true refl (c.loop-i.invariant.flipped vectors same values)
                (left_out c.args.net.now c.args.t i place c.args.marks.now c.is_found_again.result next.table (omega (arith, c.inputs-inputs.ensures.value)) c.requires.marks c.is_found_again.ensures
                w.if-is_found_again.false);
          })
    ]

pub returns-clause-flipped : goal.returns-clause-flipped
returns-clause-flipped c =
    λ vectors same values s within. holds_all (length c.args.net.now.inputs) c.args.net.now.tables c.order-i-items.result.now c.order-i-items.ensures
    (IsSignalRow vectors (λ x. flipped_values (length c.args.net.now.inputs) c.args.net.now.tables x c.args.t)) [] c.loop-i.rows c.loop-i.i-index c.loop-i-test.false
    (c.loop-i.invariant.flipped vectors same values).known s within
