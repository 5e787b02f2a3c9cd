-- Which inputs change from one wide block to the next. Source: event-driven simulation, where only what
-- changed is looked at.
use Rattle.std.specs.Prelude.{◌≡◌, ℕ, ◌+◌, ◌-◌, ◌*◌, ◌<◌, Bool, false, Option, IfSome, List, length}
use Rattle.std.specs.Prelude.{slice_index}
use Rattle.semantics.specs.Net.{NetValue, input_count}
use Rattle.lane_bits.specs.Patterns.{PatternSet, pattern_bit}
use Rattle.aig_core.specs.Graph.{input_node}
use Rattle.lane_nets.specs.declared.graph_blocks.GraphWalk.{GraphWalk}
use Rattle.lane_nets.specs.Words.{word_bit, values_at}
use Rattle.lane_nets.specs.Wide.{lane_words}
use Rattle.lane_nets.specs.Graphs.{HasRoom}

-- input i is not marked
pub record IsKept (marks i : ℕ) : Type 0 where
  pub within : i < 64
  pub bit : word_bit marks i ≡ false

-- input i has in wide block q the bits that it has in the block before
abbrev pub IsSameInput : List (List Bool) → ℕ → ℕ → Type 0
IsSameInput vectors q i = (j b : ℕ) → j < 8 → b < 64
    → pattern_bit vectors i (64 * (8 * q + j) + b) ≡ pattern_bit vectors i (64 * (8 * (q - 1) + j) + b)

-- an input that is not marked in a wide block has the bits that it has in the block before
abbrev pub AreChanges : PatternSet → List ℕ → Type 0
AreChanges s marks = (q i : ℕ) → 0 < q → q < length marks → i < s.inputs → IsKept (slice_index marks q) i
    → IsSameInput s.vectors q i

-- the node of input i has the input's bits in wide block q
abbrev pub IsInputAt : PatternSet → ℕ → List (List ℕ) → ℕ → Type 0
IsInputAt s q wides i = (j b : ℕ) → j < 8 → b < 64
    → values_at (lane_words wides j) b (input_node i) ≡ pattern_bit s.vectors i (64 * (8 * q + j) + b)

-- the nodes of all inputs have their bits in wide block q
abbrev pub HasInputBlock : PatternSet → ℕ → List (List ℕ) → Type 0
HasInputBlock s q wides = (i : ℕ) → i < s.inputs → IsInputAt s q wides i

-- the nodes of the inputs that are not marked have their bits in wide block q already
abbrev pub AreKeptInputs : PatternSet → ℕ → ℕ → List (List ℕ) → Type 0
AreKeptInputs s q marks wides = (i : ℕ) → i < s.inputs → IsKept marks i → IsInputAt s q wides i

-- where a graph is walked, the nodes of the inputs have their bits in the wide block before `next`, or in
-- none
abbrev pub HasNext : PatternSet → Option GraphWalk → ℕ → List (List ℕ) → Type 0
HasNext s walk next wides = IfSome walk (λ _. 0 < next → HasInputBlock s (next - 1) wides)

-- what is held while a net is walked over patterns: marks of the inputs that may change, the graph if there
-- is one, the wide block behind the one whose inputs stand in the graph's values, the values of the net's
-- signals or of the graph's nodes, and those of the outputs
pub record WalkState : Type 0 where
  pub marks : List ℕ
  pub walk : Option GraphWalk
  pub next : ℕ
  pub wides : List (List ℕ)
  pub outputs : List (List ℕ)

-- what holds of a net that is walked over patterns
pub record IsWalked (N : NetValue) (s : PatternSet) (w : WalkState) : Type 0 where
  pub room : HasRoom N w.walk w.wides
  pub count : length w.outputs ≡ length N.outputs
  pub inputs : s.inputs ≡ input_count N
  pub changes : AreChanges s w.marks
  pub next : HasNext s w.walk w.next w.wides
