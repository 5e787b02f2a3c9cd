-- Worked examples, computed from the definitions: the graph of a half adder, whose sum is (a or b) and not (a
-- and b).
use Rattle.std.specs.Prelude.{◌≡◌, Bool, true, false, List, [], ◌∷◌, map}
use Rattle.aig_core.specs.declared.gate.Node.TheVariants.{False, Input, And}
use Rattle.aig_core.specs.Graph.{GraphValue, node_count, node_at, truth_of}

-- nodes 1 and 2 are the inputs; node 3 is the carry, node 4 says that both are false, and node 5 is the sum
abbrev pub half_adder : GraphValue
half_adder = record {
  inputs = 2;
  gates = record { left = 2; right = 4 } ∷ record { left = 3; right = 5 } ∷ record { left = 7; right = 9 }
      ∷ [];
}

abbrev pub outputs_at : List Bool → List Bool
outputs_at x = map (truth_of half_adder x) (10 ∷ 6 ∷ [])

pub record GraphExamples : Type 0 where
  pub nodes : node_count half_adder ≡ 6
  pub constant : node_at half_adder 0 ≡ False
  pub second_input : node_at half_adder 2 ≡ Input 1
  pub sum : node_at half_adder 5 ≡ And 7 9
  pub none : outputs_at (false ∷ false ∷ []) ≡ false ∷ false ∷ []
  pub one : outputs_at (true ∷ false ∷ []) ≡ true ∷ false ∷ []
  pub both : outputs_at (true ∷ true ∷ []) ≡ false ∷ true ∷ []
  pub turned_over : truth_of half_adder (true ∷ true ∷ []) 7 ≡ false
