use Rattle.std.proofs.Common.{◌≡◌, drop}
use Rattle.chain_semantics.specs.TidyRules.{has}
use Rattle.net_tidy.proofs.net_rules.is_output.Given as goal

abbrev pub invariant-loop-i : goal.invariant-loop-i
invariant-loop-i l = has (drop l.i l.net.outputs) l.s ≡ has l.net.outputs l.s
