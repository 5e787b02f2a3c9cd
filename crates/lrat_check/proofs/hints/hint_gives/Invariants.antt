use Rattle.std.proofs.Common.{◌≡◌, drop, not, true, None}
use Rattle.std.specs.Prelude.{filter, IfSome}
use Rattle.proof_semantics.specs.Clauses.{with_literals}
use Rattle.proof_semantics.specs.Logs.{is_false_in, open_literals}
use Rattle.proof_parts.specs.Literals.{IsLiteral}
use Rattle.lrat_check.specs.Found.{at_most_one}
use Rattle.lrat_check.proofs.hints.hint_gives.Given as goal

-- with the literals that are left, what was found is all that is not false; at the last hint nothing was found
abbrev pub invariant-loop-literal : goal.invariant-loop-literal
invariant-loop-literal l =
    (with_literals (at_most_one l.found) (filter (λ x. not (is_false_in l.set x)) (drop l.literal-index l.clause)) ≡ open_literals l.set l.clause)
    × (l.last ≡ true → l.found ≡ None)
    × IfSome l.found IsLiteral
