use Rattle.std.proofs.Common.{◌≡◌, ℕ, ◌+◌, ◌*◌, ◌<◌}
use Rattle.lane_bits.specs.Patterns.{pattern_bit}
use Rattle.lane_nets.specs.Words.{values_at}
use Rattle.lane_nets.proofs.blocks.set_inputs.Given as goal

abbrev pub invariant-loop-s : goal.invariant-loop-s
invariant-loop-s l = (b s : ℕ) → b < 64 → s < l.s → values_at l.words b s ≡ pattern_bit l.patterns.vectors s (64 * l.k + b)
