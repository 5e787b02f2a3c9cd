use Rattle.std.proofs.Common.{◌≡◌, ℕ, ◌<◌, false, get_or}
use Rattle.net_core.proofs.dependence.clear.Given as goal

abbrev pub invariant-loop-mark : goal.invariant-loop-mark
invariant-loop-mark l = (s : ℕ) → s < l.mark-index → get_or l.marks s false ≡ false
