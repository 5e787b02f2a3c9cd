-- Literals, clauses, and the assignments that satisfy them. Source: DIMACS: variables are numbered from 1, a
-- literal is a variable's number or its negative, and 0 is no literal.
use Rattle.std.specs.Prelude.{◌≡◌, ℕ, zero, suc, ◌≤◌, Bool, true, false, not, if◌then◌else◌, List, [], ◌∷◌}
use Rattle.std.specs.Prelude.{◌++◌, ℤ, pos, negsuc, nat_abs, All}
use Rattle.std.specs.List.{list_any, list_all}
use Rattle.std.specs.Ordering.{int_eq}
use Rattle.semantics.specs.Value.{Assignment}

-- a clause is its literals
abbrev pub Clause : Type 0
Clause = List ℤ

-- the literal's variable is one of the first `variables`
pub record IsLiteralOf (variables : ℕ) (l : ℤ) : Type 0 where
  pub not_zero : 1 ≤ nat_abs l
  pub within : nat_abs l ≤ variables

abbrev pub AreClausesOf : ℕ → List Clause → Type 0
AreClausesOf variables clauses = All (All (IsLiteralOf variables)) clauses

-- a variable's value, or its opposite where the literal is negative; no assignment makes 0 true
abbrev pub literal_value : Assignment → ℤ → Bool
literal_value a (pos zero) = false
literal_value a (pos (suc k)) = a (suc k)
literal_value a (negsuc k) = not (a (suc k))

-- some literal is true
abbrev pub clause_value : Assignment → Clause → Bool
clause_value a clause = list_any (literal_value a) clause

-- each clause has a literal that is true
abbrev pub clauses_value : Assignment → List Clause → Bool
clauses_value a clauses = list_all (clause_value a) clauses

abbrev pub Satisfies : Assignment → List Clause → Type 0
Satisfies a clauses = clauses_value a clauses ≡ true

abbrev pub IsUnsatisfiable : List Clause → Type 0
IsUnsatisfiable clauses = (a : Assignment) → ¬ Satisfies a clauses

-- the literal stands in the clause
abbrev pub has_literal : Clause → ℤ → Bool
has_literal clause l = list_any (λ other. int_eq other l) clause

-- the literals behind the clause, without those that the clause has already
abbrev pub with_literals : Clause → List ℤ → Clause
with_literals clause [] = clause
with_literals clause (l ∷ literals)
    = with_literals (if has_literal clause l then clause else clause ++ l ∷ []) literals
