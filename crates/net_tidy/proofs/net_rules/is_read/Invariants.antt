use Rattle.std.proofs.Common.{◌≡◌, drop}
use Rattle.chain_semantics.specs.TidyRules.{is_read}
use Rattle.net_tidy.proofs.net_rules.is_read.Given as goal

abbrev pub invariant-loop-t : goal.invariant-loop-t
invariant-loop-t l = is_read (drop l.t l.net.tables) l.s ≡ is_read l.net.tables l.s
