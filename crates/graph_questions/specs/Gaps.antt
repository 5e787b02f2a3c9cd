-- How far apart the words of two nets' lowest outputs are, as a sum of literals. With p places the lowest
-- literal of a word counts 2^(32-p), so that what is counted modulo 2^32 is the word modulo 2^p. Source:
-- residue arithmetic.
use Rattle.std.specs.Prelude.{◌≡◌, ℕ, ◌+◌, ◌-◌, ◌*◌, ◌^◌, ◌<◌, ◌≤◌, Bool, true, false, List, map, length}
use Rattle.std.specs.Prelude.{take, All}
use Rattle.std.specs.Prelude.{slice_index_or}
use Rattle.semantics.specs.Net.{NetValue, input_count}
use Rattle.semantics.specs.Value.{Assignment, outputs_of}
use Rattle.semantics.specs.Error.{number_of}
use Rattle.net_errors.specs.Compared.{NetPair}
use Rattle.aig_core.specs.Graph.{GraphValue, IsLiteralOf, IsConsistent, literal_value}
use Rattle.aig_core.specs.Grown.{IsInputOf}
use Rattle.literal_sums.specs.declared.term.Term.{Term}
use Rattle.literal_sums.specs.Sums.{Agree, AgreeOver, sum_value, word_value}
use Rattle.graph_questions.specs.Levels.{LevelQuestion, IsTrueWhereOver}
use Rattle.graph_questions.specs.LowPlaces.{AreEnough}

-- what the lowest literal of a word of p places counts
abbrev pub lowest_weight : ℕ → ℕ
lowest_weight p = 2 ^ (32 - p)

-- the sum counts nothing, modulo 2^32, wherever the graph's nodes have their values
abbrev pub IsNothing : GraphValue → List Term → Type 0
IsNothing g terms = AgreeOver g (λ v. sum_value v terms) (λ v. 0)

-- these literals have the values of the first p outputs of a net, where each input has the value of its
-- literal
pub record AreLowestOf (g : GraphValue) (N : NetValue) (p : ℕ) (inputs ls : List ℕ) : Type 0 where
  pub count : length ls ≡ p
  pub within : All (IsLiteralOf g) ls
  pub is : (x : List Bool) (v : Assignment) → IsConsistent g x v
      → map (literal_value v) ls ≡ take p (outputs_of N (map (literal_value v) inputs))

-- the sum counts what the first word counts more than the second, modulo 2^32
pub record IsStep (g : GraphValue) (p : ℕ) (from to : List ℕ) (terms : List Term) : Type 0 where
  pub is : (x : List Bool) (v : Assignment) → IsConsistent g x v
      → Agree (sum_value v terms + word_value v (lowest_weight p) to) (word_value v (lowest_weight p) from)

-- l is true wherever a sum, which is a multiple of 2^(32-p) modulo 2^32, is more than k such multiples and
-- less than 2^p less k
pub record IsBeyond (g : GraphValue) (p k : ℕ) (terms : List Term) (l : ℕ) : Type 0 where
  pub within : IsLiteralOf g l
  pub beyond : (x : List Bool) (v : Assignment) (z : ℕ) → IsConsistent g x v → z < 2 ^ p
      → Agree (sum_value v terms) (lowest_weight p * z) → k < z → z + k < 2 ^ p → literal_value v l ≡ true

-- What is kept along a chain: a graph over the exact net's inputs, the literals of the lowest outputs of the
-- exact net and of the last member, and how far apart these words are.
pub record GapValue : Type 0 where
  pub graph : GraphValue
  pub inputs : List ℕ
  pub places : ℕ
  pub exact_low : List ℕ
  pub member_low : List ℕ
  pub sum : List Term

-- The graph is over the inputs of the net N, whose lowest outputs the exact literals are, and the sum counts
-- what their word counts more than that of the last member's literals.
pub record IsGapOf (N : NetValue) (gap : GapValue) : Type 0 where
  pub graph_inputs : gap.graph.inputs ≡ input_count N
  pub count : length gap.inputs ≡ input_count N
  pub within : All (IsLiteralOf gap.graph) gap.inputs
  pub inputs_are : (i : ℕ) → i < gap.graph.inputs → IsInputOf gap.graph i (slice_index_or gap.inputs i 0)
  pub few : gap.places ≤ 31
  pub in_outputs : gap.places ≤ length N.outputs
  pub exact : AreLowestOf gap.graph N gap.places gap.inputs gap.exact_low
  pub step : IsStep gap.graph gap.places gap.exact_low gap.member_low gap.sum

-- where l is false, a word counts nothing, whatever its lowest literal counts
pub record IsNothingWhere (g : GraphValue) (word : List ℕ) (l : ℕ) : Type 0 where
  pub within : IsLiteralOf g l
  pub is : (x : List Bool) (v : Assignment) (weight : ℕ) → IsConsistent g x v → literal_value v l ≡ false
      → word_value v weight word ≡ 0

-- what is kept of a net that may become the member
pub record IsNextOf (gap : GapValue) (N : NetValue) (ls : List ℕ) (terms : List Term) : Type 0 where
  pub low : AreLowestOf gap.graph N gap.places gap.inputs ls
  pub step : IsStep gap.graph gap.places gap.exact_low ls terms

-- the sum counts what the exact net's word counts more than that of the approximate net, modulo 2^32
pub record IsBetween (g : GraphValue) (nets : NetPair) (p : ℕ) (inputs : List ℕ) (terms : List Term)
    : Type 0 where
  pub is : (x : List Bool) (v : Assignment) → IsConsistent g x v → Agree
      (sum_value v terms
      + lowest_weight p * number_of (take p (outputs_of nets.approx (map (literal_value v) inputs))))
      (lowest_weight p * number_of (take p (outputs_of nets.exact (map (literal_value v) inputs))))

-- l is true wherever the error exceeds k, if the lowest p outputs are enough
pub record IsGapGoal (g : GraphValue) (q : LevelQuestion) (p : ℕ) (inputs : List ℕ) (l : ℕ) : Type 0 where
  pub within : IsLiteralOf g l
  pub over : AreEnough q p → IsTrueWhereOver g q inputs l
