use Rattle.std.proofs.Common.{take}
use Rattle.lrat_check.specs.Checker.{StandsAfter}
use Rattle.direct_clauses.proofs.checked.is_accepted.Given as goal

abbrev pub invariant-loop-item : goal.invariant-loop-item
invariant-loop-item l = StandsAfter l.formula.clauses (take l.item-index l.items) l.checker
