use Rattle.std.proofs.Common.{◌≤◌, length}
use Rattle.cdcl_core.proofs.analysis.count_levels.Given as goal

abbrev pub invariant-down : goal.invariant-down
invariant-down l = l.level ≤ length l.trail.starts

abbrev pub decreases-down : goal.decreases-down
decreases-down l = l.rest
