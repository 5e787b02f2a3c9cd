-- The first allowed move of a member of the chain, with the vectors that broke moves so far.
use Rattle.std.specs.Prelude.{◌≡◌, ◌≤◌, Bool, Option, MatchOption, List, ◌∷◌, ◌++◌, Contains, length}
use Rattle.std.specs.List.{AllByRecursion}
use Rattle.semantics.specs.declared.limits.TheConstants.{FEW_INPUTS}
use Rattle.semantics.specs.Net.{NetValue, input_count}
use Rattle.semantics.specs.Vectors.{all_vectors}
use Rattle.net_errors.specs.Compared.{NetPair}
use Rattle.chain_semantics.specs.declared.moves.Move.{Move}
use Rattle.chain_semantics.specs.Care.{IsBrokenAt}
use Rattle.chain_semantics.specs.Chain.{IsFirstAllowed}
use Rattle.chain_semantics.specs.Moves.{moves_of, moved}
use Rattle.chain_semantics.specs.Minimality.{IsBrokenBySome, AreBrokenBySome, IsMinimalBy}
use Rattle.chain_semantics.specs.Simplification.{IsAllowedMove}
use Rattle.proof_semantics.specs.declared.constraint.Constraint.{Constraint}
use Rattle.job_semantics.specs.Shrinking.{AreApart, IsSpentMove}
use Rattle.lane_bits.specs.Patterns.{PatternSet}
use Rattle.care_masks.specs.Growing.{GrowingValue}
use Rattle.level_answers.specs.Exceeds.{spent_value, IsSpentOn}
use Rattle.synth_core.specs.declared.allowed_move.Weighed.{Weighed}
use Rattle.synth_core.specs.declared.allowed_move.Weighed.TheVariants as weighed
use Rattle.synth_core.specs.declared.allowed_move.Found.{Found}
use Rattle.synth_core.specs.declared.allowed_move.Found.TheVariants.{End, Moved, Spent}

-- vectors for the exact net, which differ pairwise; with at most eight inputs they are all vectors in
-- counting order
pub record IsPool (exact : NetValue) (s : PatternSet) : Type 0 where
  pub inputs : s.inputs ≡ input_count exact
  pub widths : AllByRecursion (λ x. length x ≡ input_count exact) s.vectors
  pub apart : AreApart s.vectors
  pub counting : input_count exact ≤ FEW_INPUTS → s.vectors ≡ all_vectors (input_count exact)

-- what masks of the approximate net over these vectors are
abbrev pub masks_over : Constraint → NetPair → List (List Bool) → GrowingValue
masks_over aim nets vectors = record {
  exact = nets.exact;
  net = nets.approx;
  metric = aim.metric;
  bound = aim.bound;
  vectors = vectors;
}

-- a pool, and the approximate net's masks over it
pub record IsMaskedPool (aim : Constraint) (nets : NetPair) (s : PatternSet) (m : GrowingValue) : Type 0 where
  pub pool : IsPool nets.exact s
  pub masks : m ≡ masks_over aim nets s.vectors

-- each vector of the first list stands in the second
abbrev pub AreAmong : List (List Bool) → List (List Bool) → Type 0
AreAmong old new = (x : List Bool) → Contains old x → Contains new x

-- each move of the masks' net before those in `left` is broken by some of the masks' vectors
pub record IsSearched (m : GrowingValue) (left : List Move) : Type 0 where
  pub before : List Move
  pub stands : moves_of m.net ≡ before ++ left
  pub broken : AreBrokenBySome m.metric m.exact m.bound m.net m.vectors before

-- a move of the masks' net that none of the masks' vectors breaks
pub record IsCandidateMove (m : GrowingValue) (move : Move) : Type 0 where
  pub offered : Contains (moves_of m.net) move
  pub unbroken : (x : List Bool) → Contains m.vectors x → ¬ IsBrokenAt m.metric m.exact m.bound m.net move x

-- the first move that none of the vectors breaks, and the moves in `left` behind it
pub record IsFirstUnbroken (m : GrowingValue) (left : List Move) (move : Move) : Type 0 where
  pub searched : IsSearched m (move ∷ left)
  pub candidate : IsCandidateMove m move

abbrev pub IsNextUnbroken : GrowingValue → List Move → Option Move → Type 0
IsNextUnbroken m left found =
    MatchOption found (IsMinimalBy m.metric m.exact m.bound m.net m.vectors) (IsFirstUnbroken m left)

-- some vector breaks the move of the approximate net, or the move is allowed, or the query about it was spent
abbrev pub IsWeighed : Constraint → NetPair → List (List Bool) → Move → Weighed → Type 0
IsWeighed aim nets vectors move weighed.Refused
    = IsBrokenBySome aim.metric nets.exact aim.bound nets.approx vectors move
IsWeighed aim nets vectors move weighed.Allowed
    = IsAllowedMove aim.metric nets.exact aim.bound nets.approx move
IsWeighed aim nets vectors move (weighed.Spent s) = IsSpentOn aim nets.exact (moved nets.approx move) s

-- S is the copy of N in which the move was tried: as it was where the move was refused, moved where it is
-- allowed
abbrev pub IsScratchAfter : NetValue → Move → NetValue → Weighed → Type 0
IsScratchAfter N move S weighed.Refused = S ≡ N
IsScratchAfter N move S weighed.Allowed = S ≡ moved N move
IsScratchAfter N move S (weighed.Spent s) = Unit {0}

-- M is the approximate net after its first allowed move
pub record IsFirstMoved (aim : Constraint) (nets : NetPair) (M : NetValue) : Type 0 where
  pub move : Move
  pub first : IsFirstAllowed (IsAllowedMove aim.metric nets.exact aim.bound nets.approx)
      (moves_of nets.approx) move
  pub net : M ≡ moved nets.approx move

-- what the moves of the approximate net come to
abbrev pub IsFound : Constraint → NetPair → List (List Bool) → Found → Type 0
IsFound aim nets vectors End = IsMinimalBy aim.metric nets.exact aim.bound nets.approx vectors
IsFound aim nets vectors (Moved M) = IsFirstMoved aim nets M
IsFound aim nets vectors (Spent s) = IsSpentMove aim nets.exact nets.approx vectors (spent_value s)
