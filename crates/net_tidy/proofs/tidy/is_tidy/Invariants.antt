use Rattle.std.proofs.Common.{◌≡◌, ℕ, ◌<◌, None}
use Rattle.net_tidy.specs.Rule.{rule_at}
use Rattle.net_tidy.proofs.tidy.is_tidy.Given as goal

abbrev pub invariant-loop-t : goal.invariant-loop-t
invariant-loop-t l = (i : ℕ) → i < l.t → rule_at l.net i ≡ None
