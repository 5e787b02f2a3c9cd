use Rattle.std.proofs.Common.{◌≡◌, ◌-◌, length, drop}
use Rattle.semantics.specs.Error.{number_of}
use Rattle.case_tree.proofs.front_lanes.lane_of.Given as goal

abbrev pub invariant-loop-i : goal.invariant-loop-i
invariant-loop-i l = l.number ≡ number_of (drop (length l.bits - l.i) l.bits)
