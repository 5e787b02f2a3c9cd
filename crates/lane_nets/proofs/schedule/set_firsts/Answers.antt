use Rattle.std.proofs.Common.{refl, ◌/◌, arith}
use Rattle.lane_nets.specs.Schedules.{entry_at}
use Rattle.lane_nets.proofs.Schedules.{firsts_more}
use Rattle.lane_nets.proofs.schedule.set_firsts.Goals as goal

pub loop-i-init : goal.loop-i-init
loop-i-init c = λ n p low inside. absurd (omega (arith, inside))

pub loop-i-preserved : goal.loop-i-preserved
loop-i-preserved c =
    firsts_more c.args.order.now c.loop-i.firsts c.lower-in-loop-i.new.firsts c.loop-i.i (entry_at c.args.order.now c.loop-i.i) refl
    (λ n. omega (arith, c.lower.ensures.lowered n, c.lower-in-loop-i.ensures.lowered n))
    (omega (arith, c.lower.ensures.low, c.lower-in-loop-i.ensures.lowered ((entry_at c.args.order.now c.loop-i.i).left / 2))) c.lower-in-loop-i.ensures.low c.loop-i.invariant
