use Rattle.lane_bits.proofs.CountingOrder.{numbers_more}
use Rattle.lane_bits.proofs.input_order.numbers.Goals as goal

pub loop-i-preserved : goal.loop-i-preserved
loop-i-preserved c = numbers_more c.loop-i.numbers.items c.push.new.self.items c.loop-i.i c.loop-i.invariant c.in_ok-push.ensures.items
