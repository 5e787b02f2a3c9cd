use Rattle.std.proofs.Common.{◌-◌, length}
use Rattle.case_tree.proofs.refute.+push_cases.Given as goal

abbrev pub decreases-push_cases : goal.decreases-push_cases
decreases-push_cases l = length l.x.now - l.depth
