-- What the fields of the masks hold.
use Rattle.std.specs.Prelude.{◌≡◌, ℕ, ◌/◌, ◌%◌, ◌^◌, ◌<◌, ◌≤◌, Bool, false, List, map, length}
use Rattle.std.specs.List.{range_with_len}
use Rattle.semantics.specs.Net.{NetValue, input_count, table_count, IsSound}
use Rattle.lane_bits.specs.Rows.{row_bit, word_count}
use Rattle.lane_nets.specs.Words.{values_at}
use Rattle.lane_nets.specs.Blocks.{row_at, AreBlocksOf}

-- `count` vectors, read from the inputs of the blocks
abbrev pub vectors_in : ℕ → ℕ → List (List ℕ) → List (List Bool)
vectors_in inputs count blocks
    = map (λ p. map (values_at (row_at blocks (p / 64)) (p % 64)) (range_with_len 0 inputs))
    (range_with_len 0 count)

-- a row with the words that `count` patterns need, and with no bit past them
pub record IsRowFor (count : ℕ) (row : List ℕ) : Type 0 where
  pub words : length row ≡ word_count count
  pub clear : (p : ℕ) → count ≤ p → row_bit row p ≡ false

-- the rows of the patterns that are cared for at each table, the row of those at which the net itself exceeds
-- the bound, and room for one more row
pub record MaskRows : Type 0 where
  pub care : List (List ℕ)
  pub exceeds : List ℕ
  pub room : List ℕ

-- what the fields of the masks of a net hold, whatever nets they were made for
pub record AreFilled (N : NetValue) (count : ℕ) (held : List (List ℕ)) (rows : MaskRows) : Type 0 where
  pub blocks : AreBlocksOf N (vectors_in (input_count N) count held) held
  pub sound : IsSound N
  pub few : count < 2 ^ 64
  pub tables : length rows.care ≡ table_count N
  pub care : (t : ℕ) → t < table_count N → IsRowFor count (row_at rows.care t)
  pub exceeds : IsRowFor count rows.exceeds
  pub differs : length rows.room ≡ word_count count

-- words of outputs for `count` patterns: in each block as many words as the net has outputs
pub record FitsOutputs (N : NetValue) (count : ℕ) (outputs : List (List ℕ)) : Type 0 where
  pub blocks : length outputs ≡ word_count count
  pub widths : (k : ℕ) → k < length outputs → length (row_at outputs k) ≡ length N.outputs
