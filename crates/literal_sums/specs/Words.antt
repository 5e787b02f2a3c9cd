-- Words of literals whose value is a sum.
use Rattle.std.specs.Prelude.{◌≡◌, ℕ, ◌+◌, ◌^◌, List, Bool, All, length}
use Rattle.semantics.specs.Value.{Assignment}
use Rattle.aig_core.specs.Graph.{GraphValue, IsConsistent, IsLiteralOf}
use Rattle.literal_sums.specs.declared.term.Term.{Term}
use Rattle.literal_sums.specs.declared.adder.Adder.{Adder}
use Rattle.literal_sums.specs.Sums.{Agree, literal_count, sum_value, word_value}

-- an adder of these inputs, whose sum and carry are literals of the graph
pub record IsMadeOf (g : GraphValue) (first second third : ℕ) (adder : Adder) : Type 0 where
  pub first_is : adder.first ≡ first
  pub second_is : adder.second ≡ second
  pub third_is : adder.third ≡ third
  pub sum : IsLiteralOf g adder.sum
  pub carry : IsLiteralOf g adder.carry

-- what a literal of the graph counts by this weight was taken away from a sum
pub record IsPlaceTaken (g : GraphValue) (weight l : ℕ) (old new : List Term) : Type 0 where
  pub within : IsLiteralOf g l
  pub is : (x : List Bool) (v : Assignment) → IsConsistent g x v
      → Agree (sum_value v old) (literal_count l weight v + sum_value v new)

-- what a word of literals of the graph counts, its lowest place by 2^shift, was taken away from a sum
pub record IsWordTaken (g : GraphValue) (shift : ℕ) (word : List ℕ) (old new : List Term) : Type 0 where
  pub within : All (IsLiteralOf g) word
  pub is : (x : List Bool) (v : Assignment) → IsConsistent g x v
      → Agree (sum_value v old) (word_value v (2 ^ shift) word + sum_value v new)

-- the places of a sum from that of the weight 2^shift on, where it has no lower ones, modulo 2^32
pub record IsWordOf (g : GraphValue) (terms : List Term) (shift : ℕ) (word : List ℕ) : Type 0 where
  pub long : length word + shift ≡ 32
  pub within : All (IsLiteralOf g) word
  pub is : (x : List Bool) (v : Assignment) → IsConsistent g x v
      → Agree (sum_value v terms) (word_value v (2 ^ shift) word)
