use Rattle.std.proofs.Common.{take, All}
use Rattle.proof_semantics.specs.Clauses.{IsLiteralOf}
use Rattle.direct_clauses.proofs.checked.are_literals_of.Given as goal

abbrev pub invariant-loop-literal : goal.invariant-loop-literal
invariant-loop-literal l = All (IsLiteralOf l.variables) (take l.literal-index l.literals)
