use Rattle.std.proofs.Common.{◌≡◌, ℕ, ◌||◌, false, drop, get_or}
use Rattle.chain_semantics.specs.TidyRules.{is_read}
use Rattle.net_tidy.proofs.first_flags.mark_read.Given as goal

abbrev pub invariant-loop-t : goal.invariant-loop-t
invariant-loop-t l = (s : ℕ) → (is_read (drop l.t l.net.tables) s || get_or l.marks s false) ≡ is_read l.net.tables s
