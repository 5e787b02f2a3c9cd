-- Which patterns are cared for, as rows of bits. Source: SALSA's approximation don't-cares.
use Rattle.std.specs.Prelude.{ℕ, ◌<◌, Bool, Option, MatchOption, List, length}
use Rattle.semantics.specs.Net.{NetValue, table_count}
use Rattle.semantics.specs.declared.metric.Metric.{Metric}
use Rattle.chain_semantics.specs.declared.moves.Move.{Move}
use Rattle.chain_semantics.specs.Care.{IsCaredFor, Exceeds, IsBrokenAt}
use Rattle.lane_nets.specs.Blocks.{vector_at, row_at, IsRowWhere, IsWordWhere}
use Rattle.care_masks.specs.Growing.{GrowingValue}

-- an approximate net, the patterns, for each table a row, and one more row
pub record Masks : Type 0 where
  pub net : NetValue
  pub vectors : List (List Bool)
  pub care : List (List ℕ)
  pub exceeds : List ℕ

-- each table's row tells the patterns that are cared for, and the last row the patterns at which the net
-- itself exceeds the bound
pub record AreMasksOf (metric : Metric) (exact : NetValue) (bound : ℕ) (m : Masks) : Type 0 where
  pub care : (t : ℕ) → t < table_count m.net
      → IsRowWhere m.vectors (IsCaredFor metric exact bound m.net t) (row_at m.care t)
  pub exceeds : IsRowWhere m.vectors (Exceeds metric exact bound m.net) m.exceeds

-- the word of block k tells at which of its patterns the moved net exceeds the bound
abbrev pub IsBrokenWord : GrowingValue → Move → ℕ → ℕ → Type 0
IsBrokenWord m move = IsWordWhere m.vectors (IsBrokenAt m.metric m.exact m.bound m.net move)

-- p is the first pattern at which the moved net exceeds the bound
pub record IsFirstBroken (m : GrowingValue) (move : Move) (p : ℕ) : Type 0 where
  pub within : p < length m.vectors
  pub broken : IsBrokenAt m.metric m.exact m.bound m.net move (vector_at m.vectors p)
  pub first : (q : ℕ) → q < p → ¬ IsBrokenAt m.metric m.exact m.bound m.net move (vector_at m.vectors q)

-- the first pattern that breaks the move is found, or none where none does
abbrev pub FindsFirstBroken : GrowingValue → Move → Option ℕ → Type 0
FindsFirstBroken m move found =
    MatchOption found ((p : ℕ) → p < length m.vectors
    → ¬ IsBrokenAt m.metric m.exact m.bound m.net move (vector_at m.vectors p))
    (IsFirstBroken m move)
