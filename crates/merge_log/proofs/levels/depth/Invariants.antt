use Rattle.std.proofs.Common.{ℕ, ◌<◌, ◌≤◌, get_or}
use Rattle.merge_log.proofs.levels.depth.Given as goal

abbrev pub invariant-loop-level : goal.invariant-loop-level
invariant-loop-level l = (s : ℕ) → s < l.level-index → get_or l.levels s 0 ≤ l.depth
