use Rattle.std.proofs.Common.{◌≡◌, drop}
use Rattle.proof_semantics.specs.Logs.{with_negations}
use Rattle.lrat_check.proofs.hints.insert_negations.Given as goal

-- with the negations of the literals that are left, all are there
abbrev pub invariant-loop-literal : goal.invariant-loop-literal
invariant-loop-literal l = with_negations l.set (drop l.literal-index l.literals) ≡ with_negations l.initial.set l.literals
