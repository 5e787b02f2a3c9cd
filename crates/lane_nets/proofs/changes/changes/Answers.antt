use Rattle.std.proofs.Common.{arith}
use Rattle.std.proofs.lemmas.List.{length_push}
use Rattle.lane_nets.proofs.ChangedInputs.{changes_more}
use Rattle.lane_nets.proofs.changes.changes.Goals as goal

pub loop-q-preserved : goal.loop-q-preserved
loop-q-preserved c =
    rw c.in_ok-push-2.ensures.items
    (record {
      count = omega (arith, length_push c.loop-q.marks.items c.block_marks.result, c.loop-q.invariant.count);
      are = changes_more c.args.patterns.now c.loop-q.marks.items c.loop-q.q c.block_marks.result c.loop-q.invariant.count c.block_marks.ensures c.loop-q.invariant.are;
    })
