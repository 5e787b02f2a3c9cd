-- The law about what a text means.
use Rattle.std.specs.Prelude.{◌≡◌, ◌^◌, ◌<◌, length, Ok}
use Rattle.proof_semantics.specs.Clauses.{AreClausesOf}
use Rattle.proof_semantics.specs.Formula.{Formula, dimacs_text}
use Rattle.solve_cnf.specs.Reading.{formula_of_text}

-- a formula is what its own text means
pub record WrittenLaw : Type 0 where
  pub read : (f : Formula) → f.variables < 2 ^ 31 → AreClausesOf f.variables f.clauses
      → length f.clauses < 10 ^ 64 → formula_of_text (dimacs_text f) ≡ Ok f
