use Rattle.std.proofs.Common.{arith}
use Rattle.case_tree.proofs.Behind.{rest_more, front_kept}
use Rattle.case_tree.proofs.front_lanes.set_rest.Goals as goal

pub loop-s-preserved : goal.loop-s-preserved
loop-s-preserved c = record {
  rest = rest_more c.args.patterns.now.vectors c.loop-s.words c.row.result.now c.args.from c.loop-s.s (omega (arith, c.requires.room, c.loop-s-test.true, c.loop-s.auto.words)) c.row.ensures.bits
      c.loop-s.invariant.rest;
  front = front_kept c.loop-s.words c.args.words.now c.args.from c.loop-s.s _ c.loop-s.invariant.front;
}
