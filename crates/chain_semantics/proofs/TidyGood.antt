-- What each rule does.
use Rattle.std.proofs.Common.{◌<◌}
use Rattle.semantics.specs.Net.{NetValue}
use Rattle.chain_semantics.specs.TidyLaws.{KeepsNet, DoesNotGrow}
use Rattle.chain_semantics.proofs.TidyMeasure.{tidy_measure}
use Rattle.chain_semantics.specs.TidyLevels.{triple_of, IsBelow}

pub record IsGoodStep (N M : NetValue) : Type 0 where
  pub keeps : KeepsNet N M
  pub no_growth : DoesNotGrow N M
  pub falls : tidy_measure M < tidy_measure N
  pub triple : IsBelow (triple_of M) (triple_of N)
