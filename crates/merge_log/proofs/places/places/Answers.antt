use Rattle.std.proofs.Common.{subst, arith}
use Rattle.semantics.specs.Net.{input_count}
use Rattle.merge_log.specs.Places.{IsPlaceList}
use Rattle.merge_log.proofs.TablePlaces.{place_next, places_next}
use Rattle.merge_log.proofs.places.places.Goals as goal

pub loop-t-preserved : goal.loop-t-preserved
loop-t-preserved c =
    let N = c.args.net.now in
    record {
      places = rw c.in_ok-push.ensures.items
          (places_next (input_count N) N.tables c.loop-t.t c.loop-t.places.items c.loop-t.place c.loop-t.invariant.next c.loop-t.invariant.places);
      next = rw (c.len.ensures, c.rows.ensures.value, c.table_clause_count.ensures, c.loop-t.invariant.next)
          (place_next (input_count N) N.tables c.loop-t.t c.table-table.result.now (omega (arith, c.loop-t-test.true, c.tables-t-end.ensures.value)) c.table-table.ensures.value);
    }

pub returns : goal.returns
returns c =
    let N = c.args.net.now in
    subst (λ most. IsPlaceList (input_count N) N.tables most c.loop-t.places.items) (omega (arith, c.loop-t-test.false, c.loop-t.auto.t-end, c.tables-t-end.ensures.value)) c.loop-t.invariant.places
