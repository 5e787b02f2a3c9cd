-- What the vectors of a bundle are to show of its net, and what they have shown so far. Source: this tool's
-- own certificates.
use Rattle.std.specs.Prelude.{◌≡◌, ◌↔◌, ℕ, ◌<◌, ◌≤◌, Bool, true, false, IsTrue, List, [], ◌∷◌, ◌++◌, length}
use Rattle.std.specs.Prelude.{slice_index_or, if◌then◌else◌, Option, None, Some}
use Rattle.semantics.specs.Texts.{Bytes}
use Rattle.semantics.specs.Net.{NetValue, IsSmall, input_count}
use Rattle.semantics.specs.Error.{IsCandidate}
use Rattle.semantics.specs.declared.limits.TheConstants.{MOST_INPUTS}
use Rattle.semantics.specs.declared.metric.Metric.{Metric}
use Rattle.chain_semantics.specs.declared.moves.Move.{Move}
use Rattle.chain_semantics.specs.Minimality.{IsBrokenBySome, AreBrokenBySome}
use Rattle.job_semantics.specs.declared.version.Version.{Version}
use Rattle.job_semantics.specs.Certificate.{IsVectorsText, moves_in}
use Rattle.bundle_texts.specs.VectorLine.{LineValue, line_of}
use Rattle.bundle_texts.specs.VectorsTaken.{TakenValue, AreVectorsSoFar, NeverVectors}

-- two nets, an error and its bound, the witness, and the version whose moves are to be broken, or none where
-- nothing is claimed
pub record AskedValue : Type 0 where
  pub exact : NetValue
  pub approx : NetValue
  pub metric : Metric
  pub bound : ℕ
  pub witness : List Bool
  pub version : Option Version

pub record IsAsked (a : AskedValue) : Type 0 where
  pub candidate : IsCandidate a.exact a.approx
  pub small : IsSmall a.approx
  pub few : length a.witness ≤ MOST_INPUTS
  pub width : length a.witness ≡ input_count a.exact

abbrev pub claimed_moves : Option Version → NetValue → List Move
claimed_moves None N = []
claimed_moves (Some version) N = moves_in version N

-- the version whose moves a report says are broken
abbrev pub claimed_version : Bool → Version → Option Version
claimed_version minimal version = if minimal then Some version else None

-- the moves that are to be broken
abbrev pub asked_moves : AskedValue → List Move
asked_moves a = claimed_moves a.version a.approx

abbrev pub IsBroken : AskedValue → List (List Bool) → Move → Type 0
IsBroken a vectors = IsBrokenBySome a.metric a.exact a.bound a.approx vectors

abbrev pub AreAllBroken : AskedValue → List (List Bool) → Type 0
AreAllBroken a vectors = AreBrokenBySome a.metric a.exact a.bound a.approx vectors (asked_moves a)

-- the move stands at place i
pub record IsMoveAt (moves : List Move) (i : ℕ) (move : Move) : Type 0 where
  pub within : i < length moves
  pub here : slice_index_or moves i move ≡ move

-- mark i says whether the vectors break the move at place i
pub record AreMarks (a : AskedValue) (vectors : List (List Bool)) (marks : List Bool) : Type 0 where
  pub as_many : length marks ≡ length (asked_moves a)
  pub told : (i : ℕ) (move : Move) → IsMoveAt (asked_moves a) i move
      → (slice_index_or marks i false ≡ true) ↔ IsBroken a vectors move

-- what is asked, the marks of the vectors before the block, and the block
pub record BrokenValue : Type 0 where
  pub asked : AskedValue
  pub marks : List Bool
  pub block : List (List Bool)

-- all these vectors were taken
pub record HasSeen (b : BrokenValue) (vectors : List (List Bool)) : Type 0 where
  pub before : List (List Bool)
  pub vectors_are : vectors ≡ before ++ b.block
  pub marks : AreMarks b.asked before b.marks

-- what is asked, the text so far, and the number of bytes that are wanted next
pub record VectorsText : Type 0 where
  pub asked : AskedValue
  pub text : Bytes
  pub room : ℕ

-- either the text is right so far, with these vectors, or no text that begins with it is right
abbrev pub StandsAt : Bool → BrokenValue → LineValue → Bytes → Type 0
StandsAt true b line text = (v : TakenValue) × (line_of v ≡ line) × AreVectorsSoFar b.asked.witness v text
    × HasSeen b v.vectors
StandsAt false b line text = NeverVectors b.asked.witness text

-- the vectors of the text show what is asked, or they do not
pub record AreShown (a : AskedValue) (shown : Bool) (text : Bytes) : Type 0 where
  pub pool : List (List Bool)
  pub read : IsVectorsText (length a.witness) text a.witness pool
  pub decided : IsTrue shown ↔ AreAllBroken a (a.witness ∷ pool)

-- the text is that of vectors with the witness first, or of none
abbrev pub AreShownIn : AskedValue → Option Bool → Bytes → Type 0
AreShownIn a None text = (pool : List (List Bool)) → ¬ IsVectorsText (length a.witness) text a.witness pool
AreShownIn a (Some shown) text = AreShown a shown text
