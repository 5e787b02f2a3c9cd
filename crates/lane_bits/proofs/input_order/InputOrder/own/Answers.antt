use Rattle.std.proofs.Common.{arith}
use Rattle.lane_bits.proofs.CountingOrder.{own_places}
use Rattle.lane_bits.proofs.input_order.InputOrder.own.Goals as goal

pub invariant_of-result : goal.invariant_of-result
invariant_of-result c =
    own_places c.args.inputs c.in_ok-numbers.field-0.items c.in_ok-numbers-2.field-0.items (omega (arith, c.ranges.inputs.fits)) c.in_ok-numbers.ensures c.in_ok-numbers-2.ensures
