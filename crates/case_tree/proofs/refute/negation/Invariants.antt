use Rattle.std.proofs.Common.{◌≡◌, ◌++◌, drop}
use Rattle.case_tree.specs.Cases.{negation_from, negation}
use Rattle.case_tree.proofs.refute.negation.Given as goal

-- with the bits that are left, the clause is whole
abbrev pub invariant-loop-i : goal.invariant-loop-i
invariant-loop-i l = l.clause ++ negation_from l.i (drop l.i l.front) ≡ negation l.front
