-- The simplifications of a net within a bound: from the tidied net, the first allowed move is made and the
-- moved net is tidied, until no move is allowed. Source: SALSA; tidying, the order of the moves, and that the
-- chain may begin with another net than the exact one, are this tool's own.
use Rattle.std.specs.Prelude.{ℕ}
use Rattle.semantics.specs.Net.{NetValue, IsSound, HasSamePorts}
use Rattle.semantics.specs.Error.{IsWithin}
use Rattle.semantics.specs.declared.metric.Metric.{Metric}
use Rattle.chain_semantics.specs.declared.moves.Move.{Move}
use Rattle.chain_semantics.specs.Chain.{IsInChain, IsChainEnd}
use Rattle.chain_semantics.specs.Moves.{moves_of, moved}
use Rattle.chain_semantics.specs.Tidy.{IsTidiedFrom}

-- a move is allowed if the moved net keeps the bound on every input vector
abbrev pub IsAllowedMove : Metric → NetValue → ℕ → NetValue → Move → Type 0
IsAllowedMove metric exact bound N move = IsWithin metric exact bound (moved N move)

-- the next member is what the moved net is tidied to
abbrev pub IsTidiedMove : NetValue → Move → NetValue → Type 0
IsTidiedMove N move = IsTidiedFrom (moved N move)

-- A net that a chain may begin with: a sound net that has the ports of the exact one and keeps the bound on
-- every input vector.
pub record IsBeginning (metric : Metric) (exact : NetValue) (bound : ℕ) (begin : NetValue) : Type 0 where
  pub sound : IsSound begin
  pub ports : HasSamePorts exact begin
  pub within : IsWithin metric exact bound begin

-- The chain from a beginning starts with the net that the beginning is tidied to. Each move is judged against
-- the exact net.
pub record IsInSimplificationFrom (metric : Metric) (exact : NetValue) (bound : ℕ)
    (begin N : NetValue) : Type 0 where
  pub start : NetValue
  pub tidied : IsTidiedFrom begin start
  pub member : IsInChain moves_of (IsAllowedMove metric exact bound) IsTidiedMove start N

-- a member of which no move is allowed
pub record IsSimplificationEndFrom (metric : Metric) (exact : NetValue) (bound : ℕ)
    (begin N : NetValue) : Type 0 where
  pub start : NetValue
  pub tidied : IsTidiedFrom begin start
  pub end : IsChainEnd moves_of (IsAllowedMove metric exact bound) IsTidiedMove start N

-- the chain that begins with the exact net itself, and its end
abbrev pub IsInSimplification : Metric → NetValue → ℕ → NetValue → Type 0
IsInSimplification metric exact bound = IsInSimplificationFrom metric exact bound exact

abbrev pub IsSimplificationEnd : Metric → NetValue → ℕ → NetValue → Type 0
IsSimplificationEnd metric exact bound = IsSimplificationEndFrom metric exact bound exact
