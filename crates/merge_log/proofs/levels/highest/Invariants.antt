use Rattle.std.proofs.Common.{◌≡◌, drop, max}
use Rattle.merge_log.specs.Levels.{highest}
use Rattle.merge_log.proofs.levels.highest.Given as goal

abbrev pub invariant-loop-s : goal.invariant-loop-s
invariant-loop-s l = max l.level (highest l.levels (drop l.s-index l.signals)) ≡ highest l.levels l.signals
