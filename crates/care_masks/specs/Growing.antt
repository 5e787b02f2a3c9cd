-- Masks over a list of patterns that grows. Source: SALSA's approximation don't-cares, over the vectors that
-- broke moves.
use Rattle.std.specs.Prelude.{◌≡◌, ℕ, ◌^◌, ◌<◌, ◌≤◌, Bool, List, map, length, slice_index, slice_index_or}
use Rattle.semantics.specs.Net.{NetValue, input_count, table_count, signal_count}
use Rattle.semantics.specs.declared.metric.Metric.{Metric}
use Rattle.chain_semantics.specs.Care.{IsCaredFor, Exceeds}
use Rattle.lane_bits.specs.Rows.{word_count}
use Rattle.lane_nets.specs.Blocks.{vector_at, row_at, IsBlock, IsWordWhere}
use Rattle.lane_nets.specs.Lanes.{IsOutputBlock}
use Rattle.care_masks.specs.Filled.{vectors_in}
use Rattle.care_masks.specs.Overlaps.{AreOverlapsOf}
use Rattle.care_masks.specs.declared.judged_nets.Judged.{Judged}
use Rattle.care_masks.specs.declared.growing_blocks.Block.{Block}
use Rattle.care_masks.specs.declared.growing_blocks.Room.{Room}

-- two nets, an error and its bound, and the patterns
pub record GrowingValue : Type 0 where
  pub exact : NetValue
  pub net : NetValue
  pub metric : Metric
  pub bound : ℕ
  pub vectors : List (List Bool)

-- what is judged, over these patterns
abbrev pub judged_over : Judged → List (List Bool) → GrowingValue
judged_over j vectors = record {
  exact = j.nets.exact;
  net = j.nets.approx;
  metric = j.metric;
  bound = j.bound;
  vectors = vectors;
}

-- the second list begins with the first
pub record IsFrontOf (front whole : List (List Bool)) : Type 0 where
  pub shorter : length front ≤ length whole
  pub same : (p : ℕ) → p < length front → vector_at whole p ≡ vector_at front p

-- block k of the patterns: the values of the second net, the exact outputs, where the second net itself
-- exceeds the bound, and where the rows of each of its tables overlap
pub record IsBlockOf (j : Judged) (vectors : List (List Bool)) (k : ℕ) (block : Block) : Type 0 where
  pub values : IsBlock j.nets.approx vectors k block.words
  pub outputs : IsOutputBlock j.nets.exact vectors k block.outputs
  pub exceeds : IsWordWhere vectors (Exceeds j.metric j.nets.exact j.bound j.nets.approx) k block.exceeds
  pub overlaps : AreOverlapsOf j.nets.approx block.words block.overlaps

abbrev pub AreBlocksFor : Judged → List (List Bool) → List Block → Type 0
AreBlocksFor j vectors blocks = (k : ℕ) (d : Block) → k < length blocks
    → IsBlockOf j vectors k (slice_index_or blocks k d)

-- as many blocks as `count` patterns take, with a word for each signal, for each output and for each table
pub record FitBlocks (j : Judged) (count : ℕ) (blocks : List Block) : Type 0 where
  pub few : count < 2 ^ 64
  pub as_many : length blocks ≡ word_count count
  pub words : (k : ℕ) (d : Block) → k < length blocks
      → length (slice_index_or blocks k d).words ≡ signal_count j.nets.approx
  pub outputs : (k : ℕ) (d : Block) → k < length blocks
      → length (slice_index_or blocks k d).outputs ≡ length j.nets.exact.outputs
  pub overlaps : (k : ℕ) (d : Block) → k < length blocks
      → length (slice_index_or blocks k d).overlaps ≡ table_count j.nets.approx

-- the first words of the row of the patterns that are cared for at table t
abbrev pub AreCareWords : Judged → List (List Bool) → ℕ → List ℕ → Type 0
AreCareWords j vectors t row =
    (k : ℕ) → k < length row → IsWordWhere vectors (IsCaredFor j.metric j.nets.exact j.bound j.nets.approx t)
    k (slice_index row k)

pub record FitsRoom (j : Judged) (room : Room) : Type 0 where
  pub marks : length room.marks.items ≡ signal_count j.nets.approx
  pub words : length room.words.items ≡ signal_count j.nets.approx

-- `count` vectors, read from the inputs of the blocks
abbrev pub vectors_in_blocks : ℕ → ℕ → List Block → List (List Bool)
vectors_in_blocks inputs count blocks = vectors_in inputs count (map (λ (b : Block). b.words) blocks)

-- what the fields of the masks hold
pub record AreGrowing (j : Judged) (count : ℕ) (held : List Block) (rows : List (List ℕ))
    (spare : Room) : Type 0 where
  pub fit : FitBlocks j count held
  pub blocks : AreBlocksFor j (vectors_in_blocks (input_count j.nets.approx) count held) held
  pub tables : length rows ≡ table_count j.nets.approx
  pub few : (t : ℕ) → t < table_count j.nets.approx → length (row_at rows t) ≤ length held
  pub care : (t : ℕ) → t < table_count j.nets.approx
      → AreCareWords j (vectors_in_blocks (input_count j.nets.approx) count held) t (row_at rows t)
  pub room : FitsRoom j spare
