use Rattle.std.proofs.Common.{arith}
use Rattle.std.proofs.lemmas.List.{length_push}
use Rattle.lane_nets.proofs.BlockErrors.{widths_more, rows_more}
use Rattle.lane_nets.proofs.outputs.output_rows.Goals as goal

pub loop-k-preserved : goal.loop-k-preserved
loop-k-preserved c =
    let N = c.args.net.now in
    let row = c.in_ok-output_block.field-0 in
    let block = c.in_ok-output_block.ensures in
    let before = c.loop-k.invariant in
    rw c.in_ok-push.ensures.ok
    (record {
      count = omega (arith, length_push c.loop-k.rows row, before.count);
      widths = widths_more N c.args.patterns.now.vectors c.loop-k.rows c.loop-k.k row before.count block.width before.widths;
      are = rows_more N c.args.patterns.now.vectors c.loop-k.rows c.loop-k.k row before.count block before.are;
    })
