use Rattle.std.proofs.Common.{length, ap, sym, ◌∙◌, arith}
use Rattle.merge_log.proofs.TableParts.{table_rows, table_implied, pairs_stand, still_stand, pairs_counted, table_steps}
use Rattle.merge_log.proofs.table_steps.merge_tables.Goals as goal

pub merge_rows-requires-clause-derivation : goal.merge_rows-requires-clause-derivation
merge_rows-requires-clause-derivation c = c.requires.derivation

pub merge_rows-requires-clause-merged : goal.merge_rows-requires-clause-merged
merge_rows-requires-clause-merged c = c.requires.merged

pub merge_rows-requires-clause-rows : goal.merge_rows-requires-clause-rows
merge_rows-requires-clause-rows c =
    let own = c.args.own.now in
    rw (c.as_slice-2.ensures, c.pins.ensures.value, c.as_slice.ensures, c.rows.ensures.value)
    (record {
      widths = c.rows.ensures.formed.widths;
      pins_in = c.requires.own.pins_in;
      clauses = table_rows c.args.goal.now.clauses own.place.clause own.signal own.place.row own.table.now c.rows.ensures.formed c.requires.own.clauses;
      rows_in = c.requires.own.rows_in;
      few = omega (arith, c.requires.own.few);
    })

pub merge_rows-requires-clause-other_rows : goal.merge_rows-requires-clause-other_rows
merge_rows-requires-clause-other_rows c =
    let other = c.args.other.now in
    rw (c.as_slice-3.ensures, c.pins-2.ensures.value, c.as_slice.ensures, c.rows.ensures.value, c.requires.alike.rows)
    (record {
      widths = c.pins-2.ensures.formed.widths;
      pins_in = c.requires.other.pins_in;
      clauses = table_rows c.args.goal.now.clauses other.place.clause other.signal other.place.row other.table.now c.pins-2.ensures.formed c.requires.other.clauses;
      rows_in = c.requires.other.rows_in;
      few = omega (arith, c.requires.other.few);
    })

pub merge_rows-requires-clause-same : goal.merge_rows-requires-clause-same
merge_rows-requires-clause-same c = rw (c.as_slice-2.ensures, c.pins.ensures.value, c.as_slice-3.ensures, c.pins-2.ensures.value) c.requires.alike.pins

pub implied-requires : goal.implied-requires
implied-requires c = c.requires.own.few

pub implied-requires-2 : goal.implied-requires-2
implied-requires-2 c = c.requires.other.few

pub push_table-requires-clause-derivation : goal.push_table-requires-clause-derivation
push_table-requires-clause-derivation c = c.in_ok-merge_rows.ensures.derivation

pub push_table-requires-clause-equal : goal.push_table-requires-clause-equal
push_table-requires-clause-equal c =
    rw (c.implied.ensures.row, c.implied-2.ensures.row)
    (pairs_stand c.args.goal.now c.args.log.now c.merge_rows.new.log _ c.next_id-equal.result c.requires.derivation c.in_ok-merge_rows.ensures c.next_id-equal.ensures.value)

pub push_table-requires-clause-few : goal.push_table-requires-clause-few
push_table-requires-clause-few c = c.next_id-equal.ensures.few

pub push_table-requires-clause-own : goal.push_table-requires-clause-own
push_table-requires-clause-own c =
    let own = c.args.own.now in
    record {
      clauses = rw (c.implied.ensures.signal, c.implied.ensures.row, c.plane.ensures.value, c.as_slice.ensures, c.rows.ensures.value)
          (table_implied c.args.goal.now.clauses own.place.clause own.signal own.place.row c.implied.result.place.clause own.table.now c.rows.ensures.formed c.requires.own.clauses
          c.implied.ensures.clause);
      signal = rw c.implied.ensures.signal c.requires.own.signal;
      rows_in = rw (c.implied.ensures.row, c.as_slice.ensures, c.rows.ensures.value) c.requires.own.rows_in;
      few = omega (arith, c.requires.own.few, c.implied.ensures.clause);
    }

pub push_table-requires-clause-other : goal.push_table-requires-clause-other
push_table-requires-clause-other c =
    let other = c.args.other.now in
    record {
      clauses = rw (c.implied-2.ensures.signal, c.implied-2.ensures.row, c.plane.ensures.value, c.as_slice.ensures, c.rows.ensures.value, c.requires.alike.rows, c.requires.alike.plane)
          (table_implied c.args.goal.now.clauses other.place.clause other.signal other.place.row c.implied-2.result.place.clause other.table.now c.pins-2.ensures.formed c.requires.other.clauses
          c.implied-2.ensures.clause);
      signal = rw c.implied-2.ensures.signal c.requires.other.signal;
      rows_in = rw (c.implied-2.ensures.row, c.as_slice.ensures, c.rows.ensures.value, c.requires.alike.rows) c.requires.other.rows_in;
      few = omega (arith, c.requires.other.few, c.implied-2.ensures.clause);
    }

pub push_table-requires-2-clause-derivation : goal.push_table-requires-2-clause-derivation
push_table-requires-2-clause-derivation c = c.in_ok-push_table.ensures.derivation

pub push_table-requires-2-clause-equal : goal.push_table-requires-2-clause-equal
push_table-requires-2-clause-equal c =
    still_stand c.args.goal.now c.merge_rows.new.log c.push_table.new.log _ _ c.next_id-equal.result c.in_ok-push_table.ensures
    (rw (c.implied.ensures.row, c.implied-2.ensures.row)
    (pairs_stand c.args.goal.now c.args.log.now c.merge_rows.new.log _ c.next_id-equal.result c.requires.derivation c.in_ok-merge_rows.ensures c.next_id-equal.ensures.value))

pub push_table-requires-2-clause-few : goal.push_table-requires-2-clause-few
push_table-requires-2-clause-few c = c.next_id-equal.ensures.few

pub push_table-requires-2-clause-own : goal.push_table-requires-2-clause-own
push_table-requires-2-clause-own c =
    let own = c.args.own.now in
    record {
      clauses = rw (c.implied.ensures.signal, c.implied.ensures.row, c.plane.ensures.value, c.as_slice.ensures, c.rows.ensures.value)
          (table_implied c.args.goal.now.clauses own.place.clause own.signal own.place.row c.implied.result.place.clause own.table.now c.rows.ensures.formed c.requires.own.clauses
          c.implied.ensures.clause);
      signal = rw c.implied.ensures.signal c.requires.own.signal;
      rows_in = rw (c.implied.ensures.row, c.as_slice.ensures, c.rows.ensures.value) c.requires.own.rows_in;
      few = omega (arith, c.requires.own.few, c.implied.ensures.clause);
    }

pub push_table-requires-2-clause-other : goal.push_table-requires-2-clause-other
push_table-requires-2-clause-other c =
    let other = c.args.other.now in
    record {
      clauses = rw (c.implied-2.ensures.signal, c.implied-2.ensures.row, c.plane.ensures.value, c.as_slice.ensures, c.rows.ensures.value, c.requires.alike.rows, c.requires.alike.plane)
          (table_implied c.args.goal.now.clauses other.place.clause other.signal other.place.row c.implied-2.result.place.clause other.table.now c.pins-2.ensures.formed c.requires.other.clauses
          c.implied-2.ensures.clause);
      signal = rw c.implied-2.ensures.signal c.requires.other.signal;
      rows_in = rw (c.implied-2.ensures.row, c.as_slice.ensures, c.rows.ensures.value, c.requires.alike.rows) c.requires.other.rows_in;
      few = omega (arith, c.requires.other.few, c.implied-2.ensures.clause);
    }

pub returns-clause-adds : goal.returns-clause-adds
returns-clause-adds c =
    rw (sym (c.as_slice.ensures ∙ c.rows.ensures.value))
    (table_steps c.args.goal.now c.args.log.now c.merge_rows.new.log c.push_table.new.log c.push_table-2.new.log _ c.args.own.now.signal c.args.other.now.signal c.in_ok-merge_rows.ensures
    (rw (c.implied.ensures.signal, c.implied-2.ensures.signal) at c.in_ok-push_table.ensures) (rw (c.implied.ensures.signal, c.implied-2.ensures.signal) at c.in_ok-push_table-2.ensures))

pub returns-clause-id : goal.returns-clause-id
returns-clause-id c =
    omega (
      arith,
      c.next_id-id.ensures.value,
      pairs_counted c.args.goal.now c.args.log.now c.merge_rows.new.log _ _ _ c.requires.derivation c.in_ok-merge_rows.ensures,
      ap length (c.as_slice.ensures ∙ c.rows.ensures.value),
    )

pub returns-clause-few : goal.returns-clause-few
returns-clause-few c = c.next_id-id.ensures.few
