use Rattle.std.proofs.Common.{◌≡◌, ℕ, ◌+◌, ◌*◌, ◌<◌}
use Rattle.lane_bits.specs.Patterns.{pattern_bit}
use Rattle.lane_nets.specs.Words.{values_at}
use Rattle.lane_nets.specs.Wide.{lane_words}
use Rattle.lane_nets.proofs.wide_blocks.set_wide_inputs.Given as goal

abbrev pub invariant-loop-s : goal.invariant-loop-s
invariant-loop-s l =
    (j b s : ℕ) → j < 8 → b < 64 → s < l.s → values_at (lane_words l.wides j) b s ≡ pattern_bit l.patterns.vectors s (64 * (8 * l.q + j) + b)
