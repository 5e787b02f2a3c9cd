use Rattle.std.proofs.Common.{length, arith}
use Rattle.std.proofs.lemmas.Nat.{one_shl}
use Rattle.lane_bits.proofs.CountingOrder.{placed_formed, every_vector}
use Rattle.lane_bits.proofs.patterns.Patterns.every.Goals as goal

pub invariant_of-result : goal.invariant_of-result
invariant_of-result c =
    rw c.inputs-inputs.ensures
    (placed_formed _ c.args.order.now c.in_ok-placed_rows.field-0.items (omega (arith, c.requires)) (one_shl (length c.args.order.now) 64 (omega (arith, c.requires)))
    (rw c.inputs-inputs.ensures at c.in_ok-placed_rows.ensures))

pub returns-clause-every : goal.returns-clause-every
returns-clause-every c =
    rw c.inputs-inputs.ensures
    (every_vector _ c.args.order.now c.in_ok-placed_rows.field-0.items (omega (arith, c.requires)) (one_shl (length c.args.order.now) 64 (omega (arith, c.requires)))
    (rw c.inputs-inputs.ensures at c.in_ok-placed_rows.ensures))
