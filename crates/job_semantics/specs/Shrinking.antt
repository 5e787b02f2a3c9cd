-- What the search along a chain of simplifications comes to within a limit of conflicts for each query.
-- Source: SALSA; the limit and the vectors that are kept are this tool's own.
use Rattle.std.specs.Prelude.{◌≡◌, ◌≢◌, ℕ, ◌<◌, ◌≤◌, Bool, Option, MatchOption, List, [], ◌∷◌, ◌++◌, length}
use Rattle.std.specs.Prelude.{slice_index_or}
use Rattle.std.specs.List.{AllByRecursion}
use Rattle.semantics.specs.Net.{NetValue, input_count}
use Rattle.semantics.specs.declared.limits.TheConstants.{FEW_INPUTS}
use Rattle.semantics.specs.Vectors.{all_vectors}
use Rattle.chain_semantics.specs.declared.moves.Move.{Move}
use Rattle.chain_semantics.specs.Moves.{moves_of, moved}
use Rattle.chain_semantics.specs.Minimality.{AreBrokenBySome, IsMinimalBy}
use Rattle.chain_semantics.specs.Simplification.{IsInSimplificationFrom, IsSimplificationEndFrom}
use Rattle.proof_semantics.specs.Queries.{SpentValue, IsSpentQuery}
use Rattle.proof_semantics.specs.declared.constraint.Constraint.{Constraint}

-- a member of the chain, the vectors that broke moves, and the spent query, where one was spent
pub record Shrinking : Type 0 where
  pub net : NetValue
  pub pool : List (List Bool)
  pub spent : Option SpentValue

-- no vector stands in the list twice
abbrev pub AreApart : List (List Bool) → Type 0
AreApart vectors = (i j : ℕ) → i < j → j < length vectors
    → slice_index_or vectors i [] ≢ slice_index_or vectors j []

-- the query whether a move of the net keeps the bound was spent; each move before that move is broken by a
-- vector
pub record IsSpentMove (aim : Constraint) (exact N : NetValue)
    (pool : List (List Bool)) (q : SpentValue) : Type 0 where
  pub query : IsSpentQuery aim.metric exact aim.limit q
  pub level : q.k ≡ aim.bound
  pub before : List Move
  pub move : Move
  pub after : List Move
  pub stands : moves_of N ≡ before ++ move ∷ after
  pub net : q.net ≡ moved N move
  pub broken : AreBrokenBySome aim.metric exact aim.bound N pool before

-- the end of the chain from a beginning, each move of which is broken by a vector
pub record IsShownEnd (aim : Constraint) (exact begin N : NetValue)
    (pool : List (List Bool)) : Type 0 where
  pub end : IsSimplificationEndFrom aim.metric exact aim.bound begin N
  pub minimal : IsMinimalBy aim.metric exact aim.bound N pool

-- The net is a member of the chain from a beginning, and its end unless a query was spent. The vectors are of
-- the inputs' width and differ pairwise; with at most eight inputs they are all vectors in counting order.
pub record IsShrinking (aim : Constraint) (exact begin : NetValue)
    (s : Shrinking) : Type 0 where
  pub member : IsInSimplificationFrom aim.metric exact aim.bound begin s.net
  pub outcome : MatchOption s.spent (IsShownEnd aim exact begin s.net s.pool)
      (IsSpentMove aim exact s.net s.pool)
  pub widths : AllByRecursion (λ x. length x ≡ input_count exact) s.pool
  pub apart : AreApart s.pool
  pub counting : input_count exact ≤ FEW_INPUTS → s.pool ≡ all_vectors (input_count exact)
