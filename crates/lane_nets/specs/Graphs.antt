-- The nodes of a graph at many patterns: one word for each node, whose bit b is the node's value at pattern
-- b. Source: bit-parallel simulation of and-inverter graphs.
use Rattle.std.specs.Prelude.{◌≡◌, ℕ, ◌+◌, ◌*◌, ◌<◌, Bool, false, Option, MatchOption, List, length}
use Rattle.std.specs.Prelude.{slice_index_or}
use Rattle.semantics.specs.Net.{NetValue, signal_count}
use Rattle.lane_nets.specs.declared.graph_blocks.GraphWalk.{GraphWalk}
use Rattle.aig_core.specs.Graph.{GraphValue, input_node, node_count, value_of}
use Rattle.aig_core.specs.Signals.{IsGraphOf}
use Rattle.lane_nets.specs.Words.{values_at}
use Rattle.lane_nets.specs.Blocks.{vector_at}
use Rattle.lane_nets.specs.Wide.{lane_words}
use Rattle.lane_nets.specs.Schedules.{IsSchedule, IsSettled}

-- at pattern b the constant is false, and the inputs have the bits of x
pub record HasInputNodes (g : GraphValue) (words : List ℕ) (b : ℕ) (x : List Bool) : Type 0 where
  pub constant : values_at words b 0 ≡ false
  pub inputs : (i : ℕ) → i < g.inputs → values_at words b (input_node i) ≡ slice_index_or x i false

-- at pattern b each node has its value at x
abbrev pub HasNodes : GraphValue → List ℕ → ℕ → List Bool → Type 0
HasNodes g words b x = (n : ℕ) → n < node_count g → values_at words b n ≡ value_of g x n

-- wide block q: lane j has the nodes' values at the patterns from 64 (8 q + j) on
abbrev pub IsGraphBlock : GraphValue → List (List Bool) → ℕ → List (List ℕ) → Type 0
IsGraphBlock g vectors q wides = (j b : ℕ) → j < 8 → b < 64
    → HasNodes g (lane_words wides j) b (vector_at vectors (64 * (8 * q + j) + b))

-- a graph of the net and its schedule, and the values that are computed
pub record IsWalkOf (N : NetValue) (walk : GraphWalk) (wides : List (List ℕ)) : Type 0 where
  pub graph : IsGraphOf N walk.made.graph walk.made.literals.items
  pub schedule : IsSchedule walk.made.graph walk.schedule
  pub room : length wides ≡ node_count walk.made.graph
  pub settled : IsSettled walk.schedule.order.items wides

-- room for the values of a net's signals, or, where its graph is walked, the values of the nodes
abbrev pub HasRoom : NetValue → Option GraphWalk → List (List ℕ) → Type 0
HasRoom N walk wides = MatchOption walk (length wides ≡ signal_count N) (λ w. IsWalkOf N w wides)
