-- Full adders of a hashed graph.
use Rattle.std.specs.Prelude.{◌≡◌, ℕ, ◌+◌, ◌*◌, if◌then◌else◌, List, Bool, not, ◌&&◌}
use Rattle.std.specs.Prelude.{Option, Some, None, ⊤}
use Rattle.semantics.specs.Value.{Assignment}
use Rattle.aig_core.specs.Graph.{GraphValue, literal_value, IsConsistent}
use Rattle.literal_sums.specs.Sums.{HasConstant, Agree, literal_count, sum_value}
use Rattle.literal_sums.specs.declared.term.Term.{Term}
use Rattle.literal_sums.specs.declared.adder.Adder.{Adder}
use Rattle.literal_sums.specs.declared.adder.Inputs.{Inputs}

abbrev pub bit : Bool → ℕ
bit b = if b then 1 else 0

-- the inputs count as much as the sum and twice the carry, where the nodes have these values
abbrev pub IsAddedAt : Assignment → Adder → Type 0
IsAddedAt v adder =
    bit (literal_value v adder.first) + bit (literal_value v adder.second) + bit (literal_value v adder.third)
    ≡ bit (literal_value v adder.sum) + 2 * bit (literal_value v adder.carry)

-- at each input vector the three inputs count as much as the sum and twice the carry
pub record IsAdder (g : GraphValue) (adder : Adder) : Type 0 where
  pub is : (x : List Bool) (v : Assignment) → IsConsistent g x v → IsAddedAt v adder

-- the values of three inputs
abbrev pub inputs : Bool → Bool → Bool → Inputs
inputs first second third = record { first = first; second = second; third = third }

-- the three inputs of an adder have these values
pub record AreInputsAt (v : Assignment) (adder : Adder) (at : Inputs) : Type 0 where
  pub first : literal_value v adder.first ≡ at.first
  pub second : literal_value v adder.second ≡ at.second
  pub third : literal_value v adder.third ≡ at.third

-- the value, if it is known
abbrev pub Knows : Option Bool → Bool → Type 0
Knows None b = ⊤
Knows (Some known) b = b ≡ known

-- what is known of a literal where the inputs have these values, whatever the nodes between are
pub record IsInputKnown (adder : Adder) (at : Inputs) (l : ℕ) (known : Option Bool) : Type 0 where
  pub is : (v : Assignment) → HasConstant v → AreInputsAt v adder at → Knows known (literal_value v l)

-- what is known of a literal of a graph where the inputs have these values
pub record IsKnownAt (g : GraphValue) (adder : Adder) (at : Inputs) (l : ℕ) (known : Option Bool) : Type 0
  where
    pub is : (x : List Bool) (v : Assignment) → IsConsistent g x v → AreInputsAt v adder at
        → Knows known (literal_value v l)

-- what is known of a conjunction, and of a value that may be turned over
abbrev pub IsBoth : Option Bool → Option Bool → Option Bool → Type 0
IsBoth left right known = (a b : Bool) → Knows left a → Knows right b → Knows known (a && b)

abbrev pub IsTurned : Option Bool → Bool → Option Bool → Type 0
IsTurned given turn known = (b : Bool) → Knows given b → Knows known (if turn then not b else b)

-- the sum and the carry are right wherever the inputs have these values
pub record IsAdderAt (g : GraphValue) (adder : Adder) (at : Inputs) : Type 0 where
  pub is : (x : List Bool) (v : Assignment) → IsConsistent g x v → AreInputsAt v adder at → IsAddedAt v adder

-- the inputs count more by this weight, and the sum and the carry less, modulo 2^32
pub record HasSwapped (adder : Adder) (weight : ℕ) (old new : List Term) : Type 0 where
  pub is : (v : Assignment) → HasConstant v
      → Agree (literal_count adder.sum weight v + literal_count adder.carry (2 * weight) v + sum_value v new)
      (literal_count adder.first weight v + literal_count adder.second weight v
      + literal_count adder.third weight v + sum_value v old)
