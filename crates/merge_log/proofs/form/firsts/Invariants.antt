use Rattle.std.proofs.Common.{◌≡◌, ◌++◌, drop, map}
use Rattle.merge_log.specs.Chains.{first_of}
use Rattle.merge_log.proofs.form.firsts.Given as goal

abbrev pub invariant-loop-s : goal.invariant-loop-s
invariant-loop-s l = l.firsts.items ++ map (first_of l.merged) (drop l.s-index l.signals) ≡ map (first_of l.merged) l.signals
