use Rattle.std.proofs.Common.{◌≡◌, ℕ, ◌||◌, false, drop, get_or}
use Rattle.chain_semantics.specs.TidyRules.{has}
use Rattle.net_tidy.proofs.first_flags.mark.Given as goal

abbrev pub invariant-loop-signal : goal.invariant-loop-signal
invariant-loop-signal l = (s : ℕ) → (has (drop l.signal-index l.signals) s || get_or l.marks s false) ≡ (has l.signals s || get_or l.initial.marks s false)
