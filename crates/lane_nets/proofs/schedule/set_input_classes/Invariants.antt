use Rattle.std.proofs.Common.{ℕ, ◌≤◌, get_or}
use Rattle.lane_nets.proofs.schedule.set_input_classes.Given as goal

abbrev pub invariant-loop-s : goal.invariant-loop-s
invariant-loop-s l = (n : ℕ) → get_or l.classes n 0 ≤ 16
