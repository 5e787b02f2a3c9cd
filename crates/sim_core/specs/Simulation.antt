-- Simulation of a graph at many patterns: a row of bits for each node, one row behind another. Source:
-- bit-parallel simulation.
use Rattle.std.specs.Prelude.{◌≡◌, ℕ, ◌+◌, ◌*◌, ◌<◌, ◌≤◌, Bool, false, List, [], length, slice_index_or}
use Rattle.lane_bits.specs.Rows.{row_bit, word_count}
use Rattle.aig_core.specs.Graph.{GraphValue, node_count, value_of}

abbrev pub vector_at : List (List Bool) → ℕ → List Bool
vector_at vectors p = slice_index_or vectors p []

-- the rows of `nodes` nodes at `count` patterns: the row of node n is the words from n * word_count count on
pub record SimValue : Type 0 where
  pub nodes : ℕ
  pub count : ℕ
  pub rows : List ℕ

-- the rows are for this graph and these patterns
pub record IsForGraph (g : GraphValue) (vectors : List (List Bool)) (s : SimValue) : Type 0 where
  pub nodes : s.nodes ≡ node_count g
  pub count : s.count ≡ length vectors

-- bit p of node n's row, where each row has `words` words
abbrev pub node_bit : ℕ → List ℕ → ℕ → ℕ → Bool
node_bit words rows n p = row_bit rows (64 * (n * words) + p)

-- the first m nodes have their values at the patterns, and the bits past the last pattern are 0
pub record HaveValues (g : GraphValue) (vectors : List (List Bool)) (rows : List ℕ) (m : ℕ) : Type 0 where
  pub values : (n p : ℕ) → n < m → p < length vectors
      → node_bit (word_count (length vectors)) rows n p ≡ value_of g (vector_at vectors p) n
  pub clear : (n p : ℕ) → n < m → length vectors ≤ p → p < 64 * word_count (length vectors)
      → node_bit (word_count (length vectors)) rows n p ≡ false

-- each node has its row
pub record IsSimulationOf (g : GraphValue) (vectors : List (List Bool)) (s : SimValue) : Type 0 where
  pub is_for : IsForGraph g vectors s
  pub rows : HaveValues g vectors s.rows (node_count g)

-- a row with this value at each pattern, and 0 past the last one
pub record IsRowOfValues (vectors : List (List Bool)) (value : List Bool → Bool) (row : List ℕ) : Type 0 where
  pub words : length row ≡ word_count (length vectors)
  pub bits : (p : ℕ) → p < length vectors → row_bit row p ≡ value (vector_at vectors p)
  pub clear : (p : ℕ) → length vectors ≤ p → row_bit row p ≡ false
