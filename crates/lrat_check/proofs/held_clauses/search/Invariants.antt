use Rattle.std.proofs.Common.{◌-◌}
use Rattle.lrat_check.proofs.HeldMaps.{IsBetween}
use Rattle.lrat_check.proofs.held_clauses.search.Given as goal

-- the id stands between the two places, if anywhere
abbrev pub invariant-halves : goal.invariant-halves
invariant-halves l = IsBetween l.entries l.id l.low l.high

abbrev pub decreases-halves : goal.decreases-halves
decreases-halves l = l.high - l.low
