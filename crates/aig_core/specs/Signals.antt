-- The graph of a net: a literal for each signal.
use Rattle.std.specs.Prelude.{◌≡◌, ℕ, ◌+◌, ◌<◌, Bool, List, map, length, slice_index_or, All}
use Rattle.semantics.specs.Net.{TableValue, NetValue, input_count, signal_count}
use Rattle.semantics.specs.Value.{Assignment, value_of, outputs_of}
use Rattle.aig_core.specs.Graph.{GraphValue, IsLiteralOf, literal_value, truth_of, IsConsistent}
use Rattle.aig_core.specs.Grown.{HasValue}

-- l has the value of signal s at each input vector
pub record IsLiteralFor (N : NetValue) (g : GraphValue) (s l : ℕ) : Type 0 where
  pub within : IsLiteralOf g l
  pub is : (x : List Bool) → truth_of g x l ≡ value_of (input_count N) N.tables x s

-- the graph has the net's inputs, and each signal has its literal
pub record IsGraphOf (N : NetValue) (g : GraphValue) (literals : List ℕ) : Type 0 where
  pub inputs : g.inputs ≡ input_count N
  pub count : length literals ≡ signal_count N
  pub signals : (s : ℕ) → s < signal_count N → IsLiteralFor N g s (slice_index_or literals s 0)

-- l has the value of signal s where each input has the value of its literal
pub record IsSignalOver (g : GraphValue) (tables : List TableValue) (inputs : List ℕ)
    (s l : ℕ) : Type 0 where
  pub within : IsLiteralOf g l
  pub is : HasValue g l (λ x v. value_of (length inputs) tables (map (literal_value v) inputs) s)

-- each signal has its literal
abbrev pub AreSignalsOver : GraphValue → List TableValue → List ℕ → List ℕ → Type 0
AreSignalsOver g tables inputs signals =
    (s : ℕ) → s < length inputs + length tables
    → IsSignalOver g tables inputs s (slice_index_or signals s 0)

-- the literals have the values of the net's outputs where each input has the value of its literal
pub record AreOutputsOver (g : GraphValue) (N : NetValue) (inputs ls : List ℕ) : Type 0 where
  pub count : length ls ≡ length N.outputs
  pub within : All (IsLiteralOf g) ls
  pub is : (x : List Bool) (v : Assignment) → IsConsistent g x v
      → map (literal_value v) ls ≡ outputs_of N (map (literal_value v) inputs)
