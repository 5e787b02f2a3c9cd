-- Whether the error of a net exceeds a level, by diagrams. Source: SALSA's quality function circuit, over
-- diagrams in place of nets.
use Rattle.std.specs.Prelude.{◌≡◌, ◌≢◌, ℕ, ◌+◌, ◌<◌, nat_lt, Bool, List, map, length, AllPairs}
use Rattle.semantics.specs.Net.{NetValue, input_count}
use Rattle.semantics.specs.Value.{Assignment}
use Rattle.semantics.specs.declared.metric.Metric.{Metric}
use Rattle.semantics.specs.Error.{net_error, IsWithin}
use Rattle.quality_semantics.specs.Quality.{TellsExcess}
use Rattle.net_errors.specs.Compared.{NetPair}
use Rattle.bdd_core.specs.declared.node.Node.{Node}
use Rattle.bdd_core.specs.Diagrams.{IsValuation}
use Rattle.bdd_nets.specs.Signals.{AreVariablesOf, AreOutputsOf}
use Rattle.bdd_nets.specs.declared.ever_true.Decision.{Decision}
use Rattle.bdd_nets.specs.declared.ever_true.Decision.TheVariants.{Never, At, Unknown}
use Rattle.bdd_levels.specs.declared.level.Level.{Level}

-- the net reads two words of w bits, and its one output says whether the error of the second word against the
-- first exceeds k
pub record TellsLevel (metric : Metric) (w k : ℕ) (N : NetValue) : Type 0 where
  pub inputs : input_count N ≡ w + w
  pub one : length N.outputs ≡ 1
  pub tells : TellsExcess metric w k N

-- a level of a net, whose network is over words as wide as the net's outputs
abbrev pub IsLevelOf : NetValue → Level → Type 0
IsLevelOf N level = TellsLevel level.metric (length N.outputs) level.k level.network

-- f says whether the error exceeds the level where each input has the value of its diagram
pub record IsOverOf (nodes : List Node) (nets : NetPair) (level : Level) (inputs : List ℕ)
    (f : ℕ) : Type 0 where
  pub within : f < length nodes
  pub is : (x v : Assignment) → IsValuation nodes x v
      → v f ≡ nat_lt level.k (net_error level.metric nets.exact nets.approx (map v inputs))

-- the diagrams of a net's inputs, each of which is that of a variable of its own, and the diagrams of the
-- net's outputs
pub record AreDrawn (N : NetValue) (variables : List ℕ) (nodes : List Node)
    (inputs outputs : List ℕ) : Type 0 where
  pub inputs_are : AreVariablesOf nodes variables inputs
  pub outputs_are : AreOutputsOf nodes N inputs outputs

-- a variable for each input
pub record AreInputVariables (N : NetValue) (variables : List ℕ) : Type 0 where
  pub count : length variables ≡ input_count N
  pub distinct : AllPairs ◌≢◌ variables

-- an input vector whose error exceeds the level
pub record IsOverAt (metric : Metric) (exact approx : NetValue) (k : ℕ) (x : List Bool) : Type 0 where
  pub width : length x ≡ input_count exact
  pub exceeds : k < net_error metric exact approx x

-- no error exceeds the level, or the error at the vector that is given does
abbrev pub IsLevelDecided : Metric → NetValue → NetValue → ℕ → Decision → Type 0
IsLevelDecided metric exact approx k Never = IsWithin metric exact k approx
IsLevelDecided metric exact approx k (At bits) = IsOverAt metric exact approx k bits.items
IsLevelDecided metric exact approx k Unknown = Unit {0}
