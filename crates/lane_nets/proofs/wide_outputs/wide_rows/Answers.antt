use Rattle.std.proofs.Common.{◌∙◌, arith}
use Rattle.std.proofs.lemmas.List.{length_push}
use Rattle.lane_nets.specs.Wide.{AreWideOutputs}
use Rattle.lane_nets.proofs.BlockErrors.{wide_held, wide_rows_more}
use Rattle.lane_nets.proofs.wide_outputs.wide_rows.Goals as goal

pub loop-q-preserved : goal.loop-q-preserved
loop-q-preserved c =
    let before = c.loop-q.invariant in
    let row = c.in_ok-from_slice.field-0 in
    let held : AreWideOutputs c.args.net.now c.args.patterns.now.vectors c.loop-q.q row =
    wide_held c.args.net.now c.loop-q.wide.net c.loop-q.wide.patterns c.args.patterns.now c.loop-q.q c.reach.new.self.outputs row before.net before.patterns
    (c.in_ok-from_slice.ensures ∙ c.outputs.ensures.outputs) c.reach.ensures.outputs in
    rw c.in_ok-push.ensures.ok
    (record {
      net = c.reach.ensures.net ∙ before.net;
      patterns = c.reach.ensures.patterns ∙ before.patterns;
      count = omega (arith, length_push c.loop-q.rows row, before.count);
      are = wide_rows_more c.args.net.now c.args.patterns.now.vectors c.loop-q.rows c.loop-q.q row before.count held before.are;
    })
