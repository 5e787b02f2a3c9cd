use Rattle.std.proofs.Common.{◌/◌, ◌%◌, arith}
use Rattle.lane_bits.specs.Rows.{row_bit}
use Rattle.lane_nets.proofs.trials.block_over.Goals as goal

pub returns-clause-bits : goal.returns-clause-bits
unfolding row_bit
returns-clause-bits c = λ p low. c.over_wide.ensures (p / 64) (p % 64) (omega (arith, low)) (omega arith)
