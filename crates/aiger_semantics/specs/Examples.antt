-- Worked examples, computed from the definitions.
use Rattle.std.specs.Prelude.{◌≡◌, ◌==◌, ℕ, true, false, List, [], ◌∷◌, map, codes}
use Rattle.semantics.specs.declared.mark.Mark.TheVariants.{Zero, One, Dash}
use Rattle.semantics.specs.Texts.{Bytes}
use Rattle.semantics.specs.Net.{NetValue}
use Rattle.semantics.specs.Examples.{text, half_adder, out_of_order, constant_one, constant_sum, wire}
use Rattle.semantics.specs.Examples.{or_twice, by_zeros}
use Rattle.aiger_semantics.specs.declared.and_line.AndLine.{AndLine}
use Rattle.aiger_semantics.specs.Circuit.{CircuitValue, negated, literal_value}
use Rattle.aiger_semantics.specs.NetCircuit.{ands_of}
use Rattle.aiger_semantics.specs.Text.{aiger_text}

-- the values of the literals of two variables, of which the second is true
pub record LiteralExamples : Type 0 where
  pub values : map (literal_value (λ variable. variable == 2)) (0 ∷ 1 ∷ 2 ∷ 3 ∷ 4 ∷ 5 ∷ [])
      ≡ false ∷ true ∷ false ∷ true ∷ true ∷ false ∷ []
  pub opposites : map negated (0 ∷ 1 ∷ 2 ∷ 3 ∷ 12 ∷ 13 ∷ []) ≡ 1 ∷ 0 ∷ 3 ∷ 2 ∷ 13 ∷ 12 ∷ []

abbrev pub line : ℕ → ℕ → ℕ → AndLine
line variable left right = record { variable = variable; left = left; right = right }

-- three inputs, and a table of two rows of which the first asks for all
abbrev pub two_rows : NetValue
two_rows = record {
  model = codes "m";
  inputs = codes "a" ∷ codes "b" ∷ codes "c" ∷ [];
  tables = record {
    name = codes "y";
    pins = 0 ∷ 1 ∷ 2 ∷ [];
    rows = (One ∷ Zero ∷ One ∷ []) ∷ (Dash ∷ One ∷ Dash ∷ []) ∷ [];
    plane = false;
  } ∷ [];
  outputs = 3 ∷ [];
}

-- the variables of the inputs, the AND lines, the literals of the outputs, and the names of both
abbrev pub circuit : List ℕ → List AndLine → List ℕ → List Bytes → List Bytes → CircuitValue
circuit inputs ands outputs input_names output_names = record {
  inputs = inputs;
  ands = ands;
  outputs = outputs;
  input_names = input_names;
  output_names = output_names;
}

-- A row takes one AND line fewer than it has literals; a table takes, besides those of its rows, one line
-- fewer than it has rows. Tables may stand before those that they read; an inverter and a constant take no
-- line.
pub record CircuitExamples : Type 0 where
  pub of_half_adder :
      ands_of half_adder
      ≡ circuit (1 ∷ 2 ∷ []) (line 3 2 5 ∷ line 4 3 4 ∷ line 5 7 9 ∷ line 6 2 4 ∷ []) (11 ∷ 12 ∷ [])
      (codes "a" ∷ codes "b" ∷ []) (codes "s" ∷ codes "c" ∷ [])
  pub of_two_rows :
      ands_of two_rows
      ≡ circuit (1 ∷ 2 ∷ 3 ∷ []) (line 4 2 5 ∷ line 5 8 6 ∷ line 6 11 5 ∷ []) (12 ∷ [])
      (codes "a" ∷ codes "b" ∷ codes "c" ∷ []) (codes "y" ∷ [])
  pub of_zeros : (ands_of (or_twice by_zeros)).outputs ≡ 7 ∷ 9 ∷ []
  pub of_inverters : ands_of out_of_order
      ≡ circuit (1 ∷ []) [] (2 ∷ 3 ∷ 2 ∷ []) (codes "a" ∷ []) (codes "z" ∷ codes "y" ∷ codes "a" ∷ [])
  pub of_constant : ands_of constant_one ≡ circuit [] [] (1 ∷ []) [] (codes "y" ∷ [])
  pub of_constant_sum :
      ands_of constant_sum ≡ circuit (1 ∷ 2 ∷ []) (line 3 2 4 ∷ []) (0 ∷ 6 ∷ []) (codes "a" ∷ codes "b" ∷ [])
      (codes "s" ∷ codes "c" ∷ [])

pub record TextExamples : Type 0 where
  pub of_half_adder :
      aiger_text (ands_of half_adder)
      ≡ text
      (codes "aag 6 2 0 2 4" ∷ codes "2" ∷ codes "4" ∷ codes "11" ∷ codes "12" ∷ codes "6 2 5"
      ∷ codes "8 3 4" ∷ codes "10 7 9" ∷ codes "12 2 4"
      ∷ codes "i0 a" ∷ codes "i1 b" ∷ codes "o0 s" ∷ codes "o1 c" ∷ [])
  pub of_wire : aiger_text (ands_of wire)
      ≡ text (codes "aag 1 1 0 1 0" ∷ codes "2" ∷ codes "2" ∷ codes "i0 a" ∷ codes "o0 a" ∷ [])
  pub of_constant : aiger_text (ands_of constant_one)
      ≡ text (codes "aag 0 0 0 1 0" ∷ codes "1" ∷ codes "o0 y" ∷ [])
