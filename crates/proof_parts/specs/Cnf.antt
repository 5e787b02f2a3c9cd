-- What holds of every formula in memory.
use Rattle.std.specs.Prelude.{◌<◌, ◌^◌}
use Rattle.proof_semantics.specs.Clauses.{AreClausesOf}
use Rattle.proof_semantics.specs.Formula.{Formula}

pub record IsCnf (f : Formula) : Type 0 where
  pub few_variables : f.variables < 2 ^ 31
  pub literals : AreClausesOf f.variables f.clauses
