use Rattle.std.proofs.Common.{◌≡◌, ◌≤◌, ◌+◌, drop}
use Rattle.semantics.specs.Error.{differing}
use Rattle.net_errors.proofs.error.differing.Given as goal

-- what was counted, and at most one for each bit
abbrev pub invariant-loop-i : goal.invariant-loop-i
invariant-loop-i l = (l.count + differing (drop l.i l.exact) (drop l.i l.approx) ≡ differing l.exact l.approx) × (l.count ≤ l.i)
