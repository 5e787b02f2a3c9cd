use Rattle.std.proofs.Common.{◌≡◌, ℕ, ◌<◌, get_or}
use Rattle.net_core.proofs.order.stands_before.Given as goal

-- table t does not stand there
abbrev pub invariant-loop-j : goal.invariant-loop-j
invariant-loop-j l = (k : ℕ) → k < l.j-index → get_or l.order k 0 ≡ l.t → ⊥
