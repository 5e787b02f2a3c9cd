-- The laws about graphs, each the contract of a function without parameters.
use Rattle.std.specs.Prelude.{◌≡◌, ℕ, ◌<◌, Bool, ◌&&◌, List}
use Rattle.aig_core.specs.Graph.{GraphValue, node_count, IsLiteralOf, IsGraph, value_of, truth_of}
use Rattle.aig_core.specs.Graph.{HasOneValue}
use Rattle.aig_core.specs.Grown.{Grows, IsConjunctionOf}

-- each node has one value
abbrev pub ValueLaw : Type 0
ValueLaw = (g : GraphValue) (x : List Bool) → IsGraph g → HasOneValue g x

-- the values of nodes stay while a graph grows, and the literal of a conjunction has the value of the
-- conjunction at every input vector
pub record GrowthLaw : Type 0 where
  pub nodes : (old new : GraphValue) (x : List Bool) (n : ℕ) → IsGraph old → IsGraph new → Grows old new
      → n < node_count old → value_of new x n ≡ value_of old x n
  pub literals : (old new : GraphValue) (x : List Bool) (l : ℕ) → IsGraph old → IsGraph new → Grows old new
      → IsLiteralOf old l → truth_of new x l ≡ truth_of old x l
  pub conjunction : (g : GraphValue) (x : List Bool) (a b r : ℕ) → IsGraph g → IsConjunctionOf g a b r
      → truth_of g x r ≡ (truth_of g x a && truth_of g x b)
