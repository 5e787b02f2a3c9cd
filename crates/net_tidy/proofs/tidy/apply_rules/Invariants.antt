use Rattle.chain_semantics.proofs.TidyMeasure.{tidy_measure}
use Rattle.net_tidy.specs.Places.{dense}
use Rattle.net_tidy.proofs.Tidied.{IsUnderWay}
use Rattle.net_tidy.proofs.tidy.apply_rules.Given as goal

-- the steps so far
abbrev pub invariant-loop-t : goal.invariant-loop-t
invariant-loop-t l = IsUnderWay l.net l.draft

abbrev pub decreases-loop-t : goal.decreases-loop-t
decreases-loop-t l = tidy_measure (dense l.draft)
