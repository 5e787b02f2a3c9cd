-- And-inverter graphs: nodes in an arena, each gate the conjunction of two literals. Source: AIGER's
-- and-inverter graphs and literals. Node 0 is false, nodes 1 to n are the n inputs, and node 1 + n + i is
-- gate i. A literal is twice a node, and one more where the node's value is turned over.
use Rattle.std.specs.Prelude.{◌≡◌, ◌≢◌, ℕ, zero, suc, ◌+◌, ◌-◌, ◌*◌, ◌/◌, ◌%◌, ◌<◌, ◌==◌, Bool, false, not}
use Rattle.std.specs.Prelude.{◌&&◌, if◌then◌else◌, List, length, slice_index_or, nat_lt, AllPairs}
use Rattle.semantics.specs.Value.{Assignment}
use Rattle.aig_core.specs.declared.gate.Gate.{Gate}
use Rattle.aig_core.specs.declared.gate.Node.{Node}
use Rattle.aig_core.specs.declared.gate.Node.TheVariants.{False, Input, And}

pub record GraphValue : Type 0 where
  pub inputs : ℕ
  pub gates : List Gate

-- what stands past the last gate
abbrev pub no_gate : Gate
no_gate = record { left = 0; right = 0 }

abbrev pub gate_at : GraphValue → ℕ → Gate
gate_at g i = slice_index_or g.gates i no_gate

-- the node of an input, and that of a gate
abbrev pub input_node : ℕ → ℕ
input_node i = 1 + i

abbrev pub gate_node : GraphValue → ℕ → ℕ
gate_node g i = 1 + g.inputs + i

abbrev pub node_count : GraphValue → ℕ
node_count g = gate_node g (length g.gates)

-- what a node is
abbrev pub node_at : GraphValue → ℕ → Node
node_at g n =
    if n == 0 then False
    else (if nat_lt n (gate_node g 0) then Input (n - 1)
    else And (gate_at g (n - gate_node g 0)).left (gate_at g (n - gate_node g 0)).right)

-- a literal of one of the nodes
abbrev pub IsLiteralOf : GraphValue → ℕ → Type 0
IsLiteralOf g l = l < 2 * node_count g

-- Each gate reads two nodes before it, the lesser one first and neither the constant, and no two gates read
-- the same literals.
pub record IsGraph (g : GraphValue) : Type 0 where
  pub varying : (i : ℕ) → i < length g.gates → 0 < (gate_at g i).left / 2
  pub apart : (i : ℕ) → i < length g.gates → (gate_at g i).left / 2 < (gate_at g i).right / 2
  pub before : (i : ℕ) → i < length g.gates → (gate_at g i).right / 2 < gate_node g i
  pub distinct : AllPairs ◌≢◌ g.gates

-- the value of a literal, and the value of a gate, by the values of the nodes
abbrev pub literal_value : Assignment → ℕ → Bool
literal_value v l = if l % 2 == 1 then not (v (l / 2)) else v (l / 2)

abbrev pub gate_value : Assignment → Gate → Bool
gate_value v gate = literal_value v gate.left && literal_value v gate.right

-- v gives each node its value at the input vector x
pub record IsConsistent (g : GraphValue) (x : List Bool) (v : Assignment) : Type 0 where
  pub constant : v 0 ≡ false
  pub input : (i : ℕ) → i < g.inputs → v (input_node i) ≡ slice_index_or x i false
  pub gate : (i : ℕ) → i < length g.gates → v (gate_node g i) ≡ gate_value v (gate_at g i)

-- All nodes from the values before. After as many rounds as there are nodes the values no longer change
-- (`HasOneValue`).
abbrev pub round : GraphValue → List Bool → Assignment → Assignment
round g x v n =
    if n == 0 then false
    else (if nat_lt n (gate_node g 0) then slice_index_or x (n - 1) false
    else gate_value v (gate_at g (n - gate_node g 0)))

unfoldable pub after_rounds : GraphValue → List Bool → ℕ → Assignment
after_rounds g x zero = λ _. false
after_rounds g x (suc rounds) = round g x (after_rounds g x rounds)

-- the value of each node at the input vector x
unfoldable pub value_of : GraphValue → List Bool → Assignment
value_of g x = after_rounds g x (suc (node_count g))

-- the value of a literal at the input vector x
abbrev pub truth_of : GraphValue → List Bool → ℕ → Bool
truth_of g x l = literal_value (value_of g x) l

-- the values are consistent with every node, and a consistent assignment is the values
pub record HasOneValue (g : GraphValue) (x : List Bool) : Type 0 where
  pub consistent : IsConsistent g x (value_of g x)
  pub only : (v : Assignment) → IsConsistent g x v → (n : ℕ) → n < node_count g → v n ≡ value_of g x n
