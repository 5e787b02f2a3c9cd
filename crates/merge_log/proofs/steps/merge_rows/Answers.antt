use Rattle.std.proofs.Common.{ap, sym, subst, arith}
use Rattle.semantics.specs.Net.{row_literals}
use Rattle.merge_log.specs.Steps.{Adds}
use Rattle.merge_log.proofs.Adding.{adds-both, merged-more}
use Rattle.merge_log.proofs.RowLoops.{rows_turn, few_turn, pairs_more, width_at}
use Rattle.merge_log.proofs.steps.merge_rows.Goals as goal

pub merge_row-requires-clause-merged : goal.merge_row-requires-clause-merged
merge_row-requires-clause-merged c = merged-more c.args.goal.now c.args.log.now c.loop-j.log _ c.args.merged.now c.loop-j.invariant.adds c.requires.merged

pub merge_row-requires-clause-row : goal.merge_row-requires-clause-row
merge_row-requires-clause-row c =
    let width = width_at c.args.pair.now.rows.now c.args.pair.now.own.pins.now c.loop-j.j c.row-item.result c.loop-j-test.true c.row-item.is c.requires.rows.widths in
    rw c.as_slice-marks.ensures
    (record {
      width = width;
      pins_in = c.requires.rows.pins_in;
      clauses = (rows_turn c.args.goal.now.clauses c.args.pair.now.own.place.row c.loop-j.j c.loop-j.id c.args.pair.now.own.pins.now c.args.pair.now.rows.now c.row-item.result c.loop-j-test.true
          c.row-item.is width
          c.loop-j.invariant.clauses).0;
      row = omega (arith, c.requires.rows.rows_in, c.loop-j-test.true);
      few = omega (arith, c.requires.rows.few, c.loop-j.invariant.few);
    })

pub merge_row-requires-clause-other_row : goal.merge_row-requires-clause-other_row
merge_row-requires-clause-other_row c =
    let width = width_at c.args.pair.now.rows.now c.args.pair.now.other.pins.now c.loop-j.j c.row-item.result c.loop-j-test.true c.row-item.is c.requires.other_rows.widths in
    rw c.as_slice-marks.ensures
    (record {
      width = width;
      pins_in = c.requires.other_rows.pins_in;
      clauses = (rows_turn c.args.goal.now.clauses c.args.pair.now.other.place.row c.loop-j.j c.loop-j.behind c.args.pair.now.other.pins.now c.args.pair.now.rows.now c.row-item.result c.loop-j-test.true
          c.row-item.is width
          c.loop-j.invariant.other_clauses).0;
      row = omega (arith, c.requires.other_rows.rows_in, c.loop-j-test.true);
      few = omega (arith, c.requires.other_rows.few, c.loop-j.invariant.other_few);
    })

pub loop-j-preserved : goal.loop-j-preserved
loop-j-preserved c =
    let own = rows_turn c.args.goal.now.clauses c.args.pair.now.own.place.row c.loop-j.j c.loop-j.id c.args.pair.now.own.pins.now c.args.pair.now.rows.now c.row-item.result c.loop-j-test.true
    c.row-item.is
    (width_at c.args.pair.now.rows.now c.args.pair.now.own.pins.now c.loop-j.j c.row-item.result c.loop-j-test.true c.row-item.is c.requires.rows.widths) c.loop-j.invariant.clauses in
    let others = rows_turn c.args.goal.now.clauses c.args.pair.now.other.place.row c.loop-j.j c.loop-j.behind c.args.pair.now.other.pins.now c.args.pair.now.rows.now c.row-item.result
    c.loop-j-test.true c.row-item.is
    (width_at c.args.pair.now.rows.now c.args.pair.now.other.pins.now c.loop-j.j c.row-item.result c.loop-j-test.true c.row-item.is c.requires.other_rows.widths) c.loop-j.invariant.other_clauses in
    let few = few_turn c.loop-j.id _ c.loop-j.j c.args.pair.now.rows.now c.row-item.result c.loop-j-test.true c.row-item.is c.loop-j.invariant.few in
    let other_few = few_turn c.loop-j.behind _ c.loop-j.j c.args.pair.now.rows.now c.row-item.result c.loop-j-test.true c.row-item.is c.loop-j.invariant.other_few in
    record {
      adds = subst (Adds c.args.goal.now c.args.log.now c.merge_row.new.log) (sym (pairs_more c.args.pair.now.own.place.row c.args.pair.now.other.place.row c.loop-j.j))
          (adds-both c.args.goal.now c.args.log.now c.loop-j.log c.merge_row.new.log _ _ c.loop-j.invariant.adds c.in_ok-merge_row.ensures);
      clauses = rw (c.row_literals.ensures, c.as_slice-marks.ensures) own.1;
      other_clauses = rw (c.row_literals.ensures, c.as_slice-marks.ensures) others.1;
      few = rw (c.row_literals.ensures, c.as_slice-marks.ensures) few;
      other_few = rw (c.row_literals.ensures, c.as_slice-marks.ensures) other_few;
    }

pub merge_row-requires-clause-derivation : goal.merge_row-requires-clause-derivation
merge_row-requires-clause-derivation c = c.loop-j.invariant.adds.derivation

pub merge_row-requires-clause-same : goal.merge_row-requires-clause-same
merge_row-requires-clause-same c = c.requires.same

pub overflow_cast-own : goal.overflow_cast-own
overflow_cast-own c = omega (arith, c.requires.rows.rows_in, c.loop-j-test.true, c.vars-variables.ensures.formed.few_variables)

pub overflow_add-own : goal.overflow_add-own
overflow_add-own c = omega (arith, c.requires.rows.rows_in, c.loop-j-test.true, c.vars-variables.ensures.formed.few_variables)

pub overflow_cast-other : goal.overflow_cast-other
overflow_cast-other c = omega (arith, c.requires.other_rows.rows_in, c.loop-j-test.true, c.vars-variables.ensures.formed.few_variables)

pub overflow_add-other : goal.overflow_add-other
overflow_add-other c = omega (arith, c.requires.other_rows.rows_in, c.loop-j-test.true, c.vars-variables.ensures.formed.few_variables)

pub overflow_add-clauses : goal.overflow_add-clauses
overflow_add-clauses c =
    let few = few_turn c.loop-j.id _ c.loop-j.j c.args.pair.now.rows.now c.row-item.result c.loop-j-test.true c.row-item.is c.loop-j.invariant.few in
    omega (arith, few, c.requires.rows.few, c.row_literals.ensures, ap row_literals c.as_slice-marks.ensures)

pub overflow_add-id : goal.overflow_add-id
overflow_add-id c =
    let few = few_turn c.loop-j.id _ c.loop-j.j c.args.pair.now.rows.now c.row-item.result c.loop-j-test.true c.row-item.is c.loop-j.invariant.few in
    omega (arith, few, c.requires.rows.few, c.row_literals.ensures, ap row_literals c.as_slice-marks.ensures)

pub overflow_add-behind : goal.overflow_add-behind
overflow_add-behind c =
    let few = few_turn c.loop-j.behind _ c.loop-j.j c.args.pair.now.rows.now c.row-item.result c.loop-j-test.true c.row-item.is c.loop-j.invariant.other_few in
    omega (arith, few, c.requires.other_rows.few, c.row_literals.ensures, ap row_literals c.as_slice-marks.ensures)
