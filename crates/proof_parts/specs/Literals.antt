-- The literals that an `i32` holds together with their negations. Source: DIMACS; 2 ^ 31 - 1 is the greatest
-- variable.
use Rattle.std.specs.Prelude.{List, ℤ, All}
use Rattle.proof_semantics.specs.Clauses.{IsLiteralOf}

abbrev pub IsLiteral : ℤ → Type 0
IsLiteral l = IsLiteralOf 2147483647 l

abbrev pub AreLiterals : List ℤ → Type 0
AreLiterals literals = All IsLiteral literals
