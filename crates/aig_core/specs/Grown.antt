-- Graphs that grow, and what a literal of a graph is. Source: hashed and-inverter graphs.
use Rattle.std.specs.Prelude.{◌≡◌, ℕ, ◌+◌, ◌-◌, ◌%◌, ◌==◌, ◌<◌, ◌≤◌, ◌⊎◌, min, max, Bool, false, not, ◌&&◌}
use Rattle.std.specs.Prelude.{◌||◌, if◌then◌else◌, List, [], ◌∷◌, ◌++◌, length, slice_index_or}
use Rattle.semantics.specs.Value.{Assignment}
use Rattle.aig_core.specs.declared.gate.Gate.{Gate}
use Rattle.aig_core.specs.Graph.{GraphValue, gate_at, IsLiteralOf, literal_value, IsConsistent}

-- nodes are added, and none changes
pub record Grows (old new : GraphValue) : Type 0 where
  pub inputs : new.inputs ≡ old.inputs
  pub longer : length old.gates ≤ length new.gates
  pub same : (i : ℕ) → i < length old.gates → gate_at new i ≡ gate_at old i

-- the gate of two literals, the lesser one first
abbrev pub gate_of : ℕ → ℕ → Gate
gate_of a b = record { left = min a b; right = max a b }

-- the literal of the same node with the other sign
abbrev pub opposite_of : ℕ → ℕ
opposite_of l = if l % 2 == 1 then l - 1 else l + 1

-- Either nothing is added, or this gate alone. A gate that is added is new, and reads two nodes and no
-- constant, as each gate of a graph does.
abbrev pub AddsAtMost : GraphValue → Gate → GraphValue → Type 0
AddsAtMost old gate new = (new ≡ old) ⊎ (new ≡ record { inputs = old.inputs; gates = old.gates ++ gate ∷ [] })

-- r has this value at each input
abbrev pub HasValue : GraphValue → ℕ → (List Bool → Assignment → Bool) → Type 0
HasValue g r value = (x : List Bool) (v : Assignment) → IsConsistent g x v → literal_value v r ≡ value x v

pub record IsInputOf (g : GraphValue) (i r : ℕ) : Type 0 where
  pub within : IsLiteralOf g r
  pub is : HasValue g r (λ x v. slice_index_or x i false)

pub record IsConjunctionOf (g : GraphValue) (a b r : ℕ) : Type 0 where
  pub within : IsLiteralOf g r
  pub is : HasValue g r (λ x v. literal_value v a && literal_value v b)

pub record IsDisjunctionOf (g : GraphValue) (a b r : ℕ) : Type 0 where
  pub within : IsLiteralOf g r
  pub is : HasValue g r (λ x v. literal_value v a || literal_value v b)

-- r is a literal of the same node with the opposite value
pub record IsOppositeOf (l r : ℕ) : Type 0 where
  pub within : (g : GraphValue) → IsLiteralOf g l → IsLiteralOf g r
  pub is : (v : Assignment) → literal_value v r ≡ not (literal_value v l)
