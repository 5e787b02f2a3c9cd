-- Simulation of a net at many patterns: a row of bits for each signal. Source: bit-parallel simulation, and
-- SALSA's don't-cares by turning a table over.
use Rattle.std.specs.Prelude.{◌≡◌, ℕ, ◌<◌, ◌≤◌, Bool, false, not, List, [], length, slice_index_or}
use Rattle.semantics.specs.Net.{NetValue, TableValue, input_count, signal_count}
use Rattle.semantics.specs.Value.{Assignment, table_value, value_of}
use Rattle.chain_semantics.specs.Flips.{flipped_values}
use Rattle.lane_bits.specs.Rows.{row_bit, word_count}
use Rattle.sim_core.specs.Simulation.{IsRowOfValues}
use Rattle.sim_core.specs.declared.net_rows.Room.{Room}

abbrev pub row_at : List (List ℕ) → ℕ → List ℕ
row_at rows s = slice_index_or rows s []

-- the values of the signals at a pattern
abbrev pub values_of : List (List ℕ) → ℕ → Assignment
values_of rows p = λ s. row_bit (row_at rows s) p

-- each row has `words` words
abbrev pub AreWide : ℕ → List (List ℕ) → Type 0
AreWide words rows = (s : ℕ) → s < length rows → length (row_at rows s) ≡ words

-- the first rows have these values at the patterns, and 0 past the last one
abbrev pub HaveRows : List (List Bool) → (List Bool → Assignment) → ℕ → List (List ℕ) → Type 0
HaveRows vectors values m rows = (s : ℕ) → s < m → IsRowOfValues vectors (λ x. values x s) (row_at rows s)

-- the rows of a net's signals at `count` patterns, the net's outputs, and the rows where a table is turned
-- over
pub record FlipValue : Type 0 where
  pub count : ℕ
  pub outputs : List ℕ
  pub rows : List (List ℕ)
  pub flipped : List (List ℕ)

-- the rows are for this net and these patterns
pub record IsForNet (N : NetValue) (vectors : List (List Bool)) (s : FlipValue) : Type 0 where
  pub count : s.count ≡ length vectors
  pub outputs : length s.outputs ≡ length N.outputs
  pub rows : length s.rows ≡ signal_count N

-- each signal has its row
pub record IsNetSimulation (N : NetValue) (vectors : List (List Bool)) (s : FlipValue) : Type 0 where
  pub is_for : IsForNet N vectors s
  pub outputs : s.outputs ≡ N.outputs
  pub rows : HaveRows vectors (value_of (input_count N) N.tables) (signal_count N) s.rows

-- each signal has its row where table t is turned over at every pattern
abbrev pub HaveFlipped : NetValue → List (List Bool) → ℕ → List (List ℕ) → Type 0
HaveFlipped N vectors t rows
    = HaveRows vectors (λ x. flipped_values (input_count N) N.tables x t) (signal_count N) rows

-- what the fields hold: rows of one length, and each flipped row that is not marked is the signal's row
pub record AreKept (count : ℕ) (rows flipped : List (List ℕ)) (marks : List Bool) : Type 0 where
  pub as_many : length flipped ≡ length rows
  pub marked : length marks ≡ length rows
  pub wide : AreWide (word_count count) rows
  pub flipped_wide : AreWide (word_count count) flipped
  pub same : (s : ℕ) → s < length rows → slice_index_or marks s false ≡ false
      → row_at flipped s ≡ row_at rows s

-- the row of a table, whose pins have these rows
pub record IsTableRow (t : TableValue) (count : ℕ) (rows : List (List ℕ)) (row : List ℕ) : Type 0 where
  pub words : length row ≡ word_count count
  pub bits : (p : ℕ) → p < count → row_bit row p ≡ table_value t (values_of rows p)
  pub clear : (p : ℕ) → count ≤ p → row_bit row p ≡ false

-- a row with the opposite bits
pub record IsOppositeRow (count : ℕ) (old new : List ℕ) : Type 0 where
  pub words : length new ≡ word_count count
  pub bits : (p : ℕ) → p < count → row_bit new p ≡ not (row_bit old p)
  pub clear : (p : ℕ) → count ≤ p → row_bit new p ≡ false

-- rooms are as wide as the rows
pub record FitsRoom (count : ℕ) (room : Room) : Type 0 where
  pub cube : length room.cube ≡ word_count count
  pub cover : length room.cover ≡ word_count count
