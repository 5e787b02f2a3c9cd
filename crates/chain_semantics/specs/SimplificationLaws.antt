-- The laws about the simplifications of a net, each the contract of a function without parameters.
use Rattle.std.specs.Prelude.{◌≡◌, ◌⊎◌, ℕ, ◌+◌, ◌<◌, ◌≤◌, Contains}
use Rattle.semantics.specs.Net.{NetValue, literal_count, IsSound, IsSmall, HasSamePorts}
use Rattle.semantics.specs.Error.{IsWithin}
use Rattle.semantics.specs.declared.metric.Metric.{Metric}
use Rattle.chain_semantics.specs.declared.moves.Move.{Move}
use Rattle.chain_semantics.specs.Chain.{IsFirstAllowed, step_count}
use Rattle.chain_semantics.specs.Moves.{moves_of, moved}
use Rattle.chain_semantics.specs.MoveLaws.{IsLoweredFrom}
use Rattle.chain_semantics.specs.Tidy.{IsTidy}
use Rattle.chain_semantics.specs.TidyLaws.{DoesNotGrow}
use Rattle.chain_semantics.specs.Simplification.{IsAllowedMove, IsTidiedMove, IsBeginning}
use Rattle.chain_semantics.specs.Simplification.{IsInSimplification, IsSimplificationEnd}
use Rattle.chain_semantics.specs.Simplification.{IsInSimplificationFrom, IsSimplificationEndFrom}

-- a sound tidy net that has the ports of the exact one, no larger counts than the beginning, and an error
-- within the bound
pub record IsSimplifiedNetFrom (metric : Metric) (exact : NetValue) (bound : ℕ)
    (begin N : NetValue) : Type 0 where
  pub sound : IsSound N
  pub tidy : IsTidy N
  pub model : N.model ≡ begin.model
  pub ports : HasSamePorts exact N
  pub no_growth : DoesNotGrow begin N
  pub within : IsWithin metric exact bound N

abbrev pub IsSimplifiedNet : Metric → NetValue → ℕ → NetValue → Type 0
IsSimplifiedNet metric exact bound = IsSimplifiedNetFrom metric exact bound exact

-- the first allowed move of a member, and what its net is tidied to
pub record HasNext (metric : Metric) (exact : NetValue) (bound : ℕ) (N : NetValue) : Type 0 where
  pub move : Move
  pub is_first : IsFirstAllowed (IsAllowedMove metric exact bound N) (moves_of N) move
  pub after : NetValue
  pub tidied : IsTidiedMove N move after

-- On a tidy net each move lowers the number of literals. Each member of the chain of a sound net is sound and
-- tidy, and small if the exact net is small. Each member is an end or has a next member, with fewer literals,
-- so the chain has at most as many moves as the exact net has literals. The chain has one end.
pub record SimplificationLaw : Type 0 where
  pub lowers : (N : NetValue) (move : Move) → IsSound N → IsTidy N → Contains (moves_of N) move
      → IsLoweredFrom N (moved N move)
  pub members : (metric : Metric) (exact : NetValue) (bound : ℕ) (N : NetValue) → IsSound exact
      → IsInSimplification metric exact bound N
      → IsSimplifiedNet metric exact bound N
  pub small : (metric : Metric) (exact : NetValue) (bound : ℕ) (N : NetValue) → IsSound exact → IsSmall exact
      → IsInSimplification metric exact bound N → IsSmall N
  pub goes_on : (metric : Metric) (exact : NetValue) (bound : ℕ) (N : NetValue) → IsSound exact
      → IsInSimplification metric exact bound N
      → IsSimplificationEnd metric exact bound N ⊎ HasNext metric exact bound N
  pub falls : (metric : Metric) (exact : NetValue) (bound : ℕ) (N M : NetValue) (move : Move) → IsSound exact
      → IsInSimplification metric exact bound N
      → IsFirstAllowed (IsAllowedMove metric exact bound N) (moves_of N) move → IsTidiedMove N move M
      → literal_count M < literal_count N
  pub steps : (metric : Metric) (exact : NetValue) (bound : ℕ) (N : NetValue) → IsSound exact
      → (h : IsInSimplification metric exact bound N)
      → step_count N h.member + literal_count N ≤ literal_count exact
  pub ends : (metric : Metric) (exact : NetValue) (bound : ℕ) → IsSound exact
      → (N : NetValue) × IsSimplificationEnd metric exact bound N
  pub only : (metric : Metric) (exact : NetValue) (bound : ℕ) (N M : NetValue)
      → IsSimplificationEnd metric exact bound N → IsSimplificationEnd metric exact bound M → N ≡ M

-- The same of the chain from a beginning: each member is sound and tidy, keeps the bound, and does not grow
-- from the beginning; the chain ends, at one net. A sound net is a beginning of its own chain.
pub record BeginningLaw : Type 0 where
  pub itself : (metric : Metric) (exact : NetValue) (bound : ℕ) → IsSound exact
      → IsBeginning metric exact bound exact
  pub members : (metric : Metric) (exact : NetValue) (bound : ℕ) (begin N : NetValue)
      → IsBeginning metric exact bound begin → IsInSimplificationFrom metric exact bound begin N
      → IsSimplifiedNetFrom metric exact bound begin N
  pub small : (metric : Metric) (exact : NetValue) (bound : ℕ) (begin N : NetValue)
      → IsBeginning metric exact bound begin → IsSmall begin
      → IsInSimplificationFrom metric exact bound begin N → IsSmall N
  pub goes_on : (metric : Metric) (exact : NetValue) (bound : ℕ) (begin N : NetValue)
      → IsBeginning metric exact bound begin → IsInSimplificationFrom metric exact bound begin N
      → IsSimplificationEndFrom metric exact bound begin N ⊎ HasNext metric exact bound N
  pub falls : (metric : Metric) (exact : NetValue) (bound : ℕ) (begin N M : NetValue) (move : Move)
      → IsBeginning metric exact bound begin → IsInSimplificationFrom metric exact bound begin N
      → IsFirstAllowed (IsAllowedMove metric exact bound N) (moves_of N) move → IsTidiedMove N move M
      → literal_count M < literal_count N
  pub steps : (metric : Metric) (exact : NetValue) (bound : ℕ) (begin N : NetValue)
      → IsBeginning metric exact bound begin → (h : IsInSimplificationFrom metric exact bound begin N)
      → step_count N h.member + literal_count N ≤ literal_count begin
  pub ends : (metric : Metric) (exact : NetValue) (bound : ℕ) (begin : NetValue)
      → IsBeginning metric exact bound begin
      → (N : NetValue) × IsSimplificationEndFrom metric exact bound begin N
  pub only : (metric : Metric) (exact : NetValue) (bound : ℕ) (begin N M : NetValue)
      → IsSimplificationEndFrom metric exact bound begin N
      → IsSimplificationEndFrom metric exact bound begin M → N ≡ M
