-- AND circuits and their values. Source: AIGER: a literal is twice its variable, and the opposite literal is
-- one more.
use Rattle.std.specs.Prelude.{◌≡◌, ◌==◌, ℕ, ◌+◌, ◌-◌, ◌*◌, ◌/◌, ◌%◌, ◌<◌, Bool, false, not, ◌&&◌}
use Rattle.std.specs.Prelude.{if◌then◌else◌, List, map, length, slice_index_or}
use Rattle.std.specs.List.{AllByRecursion}
use Rattle.semantics.specs.Texts.{Bytes}
use Rattle.semantics.specs.Value.{Assignment}
use Rattle.aiger_semantics.specs.declared.and_line.AndLine.{AndLine}

-- the variables of the inputs, the AND lines and the literals of the outputs, and the names of the inputs and
-- of the outputs
pub record CircuitValue : Type 0 where
  pub inputs : List ℕ
  pub ands : List AndLine
  pub outputs : List ℕ
  pub input_names : List Bytes
  pub output_names : List Bytes

-- the literal of a variable
abbrev pub literal_of_variable : ℕ → ℕ
literal_of_variable variable = 2 * variable

-- the opposite literal
abbrev pub negated : ℕ → ℕ
negated literal = if literal % 2 == 0 then literal + 1 else literal - 1

-- The value of a literal where each variable has a value: an odd literal has the opposite of the value of the
-- literal below it.
abbrev pub literal_value : Assignment → ℕ → Bool
literal_value v literal = if literal % 2 == 0 then v (literal / 2) else not (v (literal / 2))

-- the conjunction of the two literals
abbrev pub and_value : Assignment → AndLine → Bool
and_value v a = literal_value v a.left && literal_value v a.right

-- Variable 0 is false, each input has its bit of x, and the variable of each AND line has the value of the
-- line.
pub record Fits (c : CircuitValue) (x : List Bool) (v : Assignment) : Type 0 where
  pub constant : v 0 ≡ false
  pub input : (i : ℕ) → i < length c.inputs → v (slice_index_or c.inputs i 0) ≡ slice_index_or x i false
  pub lines : AllByRecursion (λ a. v a.variable ≡ and_value v a) c.ands

abbrev pub output_values : CircuitValue → Assignment → List Bool
output_values c v = map (literal_value v) c.outputs

-- The circuit's outputs at the input vector x: some assignment fits, and each assignment that fits gives the
-- outputs these values.
pub record HasOutputs (c : CircuitValue) (x bits : List Bool) : Type 0 where
  pub values : Assignment
  pub fit : Fits c x values
  pub only : (v : Assignment) → Fits c x v → output_values c v ≡ bits
