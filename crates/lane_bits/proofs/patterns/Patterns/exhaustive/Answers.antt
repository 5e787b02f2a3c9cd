use Rattle.std.proofs.Common.{arith}
use Rattle.std.proofs.lemmas.Nat.{one_shl}
use Rattle.lane_bits.proofs.CountingOrder.{counting_formed, counting_set}
use Rattle.lane_bits.proofs.patterns.Patterns.exhaustive.Goals as goal

pub invariant_of-result : goal.invariant_of-result
invariant_of-result c =
    counting_formed c.args.inputs _ c.in_ok-counting_rows.field-0.items (omega (arith, c.requires)) (one_shl c.args.inputs 64 (omega (arith, c.requires))) c.in_ok-counting_rows.ensures

pub returns : goal.returns
returns c =
    counting_set c.args.inputs _ c.in_ok-counting_rows.field-0.items (omega (arith, c.requires)) (one_shl c.args.inputs 64 (omega (arith, c.requires))) c.in_ok-counting_rows.ensures
