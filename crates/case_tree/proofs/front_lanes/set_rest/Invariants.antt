use Rattle.std.proofs.Common.{◌≡◌, ℕ, ◌+◌, ◌<◌, slice_index}
use Rattle.lane_bits.specs.Patterns.{pattern_bit}
use Rattle.lane_nets.specs.Words.{values_at}
use Rattle.case_tree.proofs.front_lanes.set_rest.Given as goal

abbrev pub invariant-loop-s : goal.invariant-loop-s
invariant-loop-s l = record {
  rest : (b s : ℕ) → b < 64 → s < l.s → values_at l.words b (l.from + s) ≡ pattern_bit l.patterns.vectors s b;
  front : (s : ℕ) → s < l.from → slice_index l.words s ≡ slice_index l.initial.words s;
}
