use Rattle.std.proofs.Common.{ℕ, ◌<◌, ◌≤◌}
use Rattle.net_tidy.specs.Flags.{IsDown}
use Rattle.net_tidy.proofs.flags.Flags.next.Given as goal

abbrev pub invariant-loop-i : goal.invariant-loop-i
invariant-loop-i l = (j : ℕ) → l.from ≤ j → j < l.i → IsDown l.self j
