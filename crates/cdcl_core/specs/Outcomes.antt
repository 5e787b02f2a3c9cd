-- What a search that forgets comes to.
use Rattle.std.specs.Prelude.{List}
use Rattle.proof_semantics.specs.Formula.{Formula}
use Rattle.proof_semantics.specs.Logs.{LogItem, Refutes, IsDerivation}
use Rattle.cdcl_core.specs.Answers.{IsModel}
use Rattle.cdcl_core.specs.Searched.{Begins}
use Rattle.cdcl_core.specs.declared.outcome.Outcome.{Outcome}
use Rattle.cdcl_core.specs.declared.outcome.Outcome.TheVariants.{Model, Refuted, Open}

-- the derived steps, and behind them steps that end in the empty clause
pub record IsRefutationBehind (f : Formula) (derived log : List LogItem) : Type 0 where
  pub begins : Begins derived log
  pub derivation : IsDerivation f log
  pub refutes : Refutes f.clauses log

-- the derived steps, and behind them further ones
pub record IsOpenBehind (f : Formula) (derived log : List LogItem) : Type 0 where
  pub begins : Begins derived log
  pub derivation : IsDerivation f log

abbrev pub IsOutcome : Formula → List LogItem → Outcome → Type 0
IsOutcome f derived (Model bits) = IsModel f bits
IsOutcome f derived (Refuted log) = IsRefutationBehind f derived log
IsOutcome f derived (Open log) = IsOpenBehind f derived log
