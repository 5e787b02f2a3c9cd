use Rattle.std.proofs.Common.{◌≡◌, ℕ, ◌<◌, slice_index_or, false}
use Rattle.lane_nets.specs.Words.{values_at}
use Rattle.case_tree.proofs.front_lanes.set_front.Given as goal

abbrev pub invariant-loop-s : goal.invariant-loop-s
invariant-loop-s l = (b s : ℕ) → b < 64 → s < l.s → values_at l.words b s ≡ slice_index_or l.front s false
