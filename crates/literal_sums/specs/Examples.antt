-- Worked examples, computed from the definitions: sums of terms, a word, and the adder of a graph.
use Rattle.std.specs.Prelude.{◌≡◌, ℕ, ◌+◌, ◌%◌, ◌==◌, List, [], ◌∷◌, Bool, true, false}
use Rattle.semantics.specs.Value.{Assignment}
use Rattle.aig_core.specs.Graph.{value_of}
use Rattle.aig_core.specs.Examples.{half_adder}
use Rattle.literal_sums.specs.declared.term.Term.{Term}
use Rattle.literal_sums.specs.declared.adder.Adder.{Adder}
use Rattle.literal_sums.specs.Sums.{Agree, sum_value, weight_in, word_value}
use Rattle.literal_sums.specs.Adders.{IsAddedAt}

-- nodes 1 and 3 are true, and node 2 is not
abbrev pub odd_nodes : Assignment
odd_nodes n = n % 2 == 1

abbrev pub weighted : ℕ → ℕ → Term
weighted literal weight = record { literal = literal; weight = weight }

-- node 1 and twice node 2, less node 3
abbrev pub three_terms : List Term
three_terms = weighted 2 1 ∷ weighted 4 2 ∷ weighted 6 4294967295 ∷ []

pub record SumExamples : Type 0 where
  pub none : sum_value odd_nodes [] ≡ 0
  pub one_less_one : sum_value odd_nodes three_terms ≡ 4294967296
  pub is_nothing : Agree (sum_value odd_nodes three_terms) 0
  pub turned_over : sum_value odd_nodes (weighted 5 7 ∷ []) ≡ 7
  pub two_halves : Agree (2147483648 + 2147483648) 0
  pub weight : weight_in 4 three_terms ≡ 2
  pub no_weight : weight_in 8 three_terms ≡ 0
  pub word : word_value odd_nodes 8 (2 ∷ 4 ∷ 6 ∷ []) ≡ 40

-- the half adder of the graph of two inputs, whose nodes 3 and 5 are the carry and the sum
abbrev pub half : Adder
half = record { first = 2; second = 4; third = 0; sum = 10; carry = 6 }

abbrev pub values_at : Bool → Bool → Assignment
values_at first second = value_of half_adder (first ∷ second ∷ [])

pub record AdderExamples : Type 0 where
  pub none : IsAddedAt (values_at false false) half
  pub one : IsAddedAt (values_at true false) half
  pub other : IsAddedAt (values_at false true) half
  pub both : IsAddedAt (values_at true true) half
