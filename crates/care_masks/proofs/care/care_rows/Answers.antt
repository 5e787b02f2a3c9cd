use Rattle.std.proofs.Common.{ℕ, List, length, drop, ap, arith}
use Rattle.std.proofs.lemmas.List.{length_push}
use Rattle.chain_semantics.specs.Care.{IsCaredFor}
use Rattle.lane_nets.specs.Blocks.{IsRowWhere}
use Rattle.care_masks.proofs.CareBits.{rows_more, row_written}
use Rattle.care_masks.proofs.care.care_rows.Goals as goal

pub loop-t-preserved : goal.loop-t-preserved
loop-t-preserved c = (
  omega (arith, ap length c.in_ok-push.ensures.ok, length_push c.loop-t.rows c.of.result, c.loop-t.invariant.0),
  λ exact vectors long outputs blocks. rw c.in_ok-push.ensures.ok
      (rows_more (λ (t : ℕ) (row : List ℕ). IsRowWhere vectors (IsCaredFor c.args.limit.now.metric exact c.args.limit.now.level c.args.net.now t) row) c.loop-t.rows c.loop-t.t
      c.of.result c.loop-t.invariant.0
      (row_written (IsRowWhere vectors (IsCaredFor c.args.limit.now.metric exact c.args.limit.now.level c.args.net.now c.loop-t.t)) c.of.result c.set_care_row.new.row
      (drop (length c.set_care_row.new.row) c.in_ok-row.row.items) c.in_ok-row.row.len c.of.ensures (omega (arith, c.set_care_row.auto.row, c.deref_mut.ensures.len, c.in_ok-row.ensures.len))
      (c.set_care_row.ensures exact vectors long outputs blocks)) (c.loop-t.invariant.1 exact vectors long outputs blocks)),
)

pub returns-clause-rows : goal.returns-clause-rows
returns-clause-rows c = λ exact vectors long outputs blocks t low. c.loop-t.invariant.1 exact vectors long outputs blocks t (omega (arith, low, c.loop-t-test.false))
