use Rattle.std.proofs.Common.{refl, length, ◌<◌, arith}
use Rattle.lane_nets.specs.Schedules.{entry_at}
use Rattle.lane_nets.proofs.Schedules.{order_more, others_more}
use Rattle.lane_nets.proofs.graph_words.eval_order.Goals as goal

pub loop-i-init : goal.loop-i-init
loop-i-init c = record { done = c.requires.before; others = λ n other j b lane low. refl }

pub loop-i-preserved : goal.loop-i-preserved
loop-i-preserved c =
    let room : (entry_at c.args.order.now c.loop-i.i).node < length c.loop-i.wides = omega (arith, c.requires.nodes c.loop-i.i c.loop-i-test.true, c.loop-i.auto.wides) in
    record {
      done =
          order_more c.args.order.now c.loop-i.wides c.loop-i.i (entry_at c.args.order.now c.loop-i.i) c.literal_wide-left.result c.literal_wide-right.result c.and_wide.result c.loop-i-test.true refl room
          c.requires.once c.requires.ordered c.literal_wide-left.ensures c.literal_wide-right.ensures c.and_wide.ensures c.loop-i.invariant.done;
      others =
          others_more c.args.order.now c.loop-i.wides c.loop-i.i (entry_at c.args.order.now c.loop-i.i) c.literal_wide-left.result c.literal_wide-right.result c.and_wide.result c.loop-i-test.true refl room
          c.requires.once c.requires.ordered c.args.wides.now c.loop-i.invariant.others;
    }
