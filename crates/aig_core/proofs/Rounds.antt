-- Each node of a graph has one value.
use Rattle.std.proofs.Common.{◌≡◌, ◌≢◌, ℕ, zero, suc, ◌-◌, ◌/◌, ◌%◌, ◌==◌, ◌<◌, ◌≤◌, ◌⊎◌, inl, inr, Bool, false, cond, not, ◌&&◌, List, length, get_or, refl, sym, ap, ◌∙◌, arith}
use Rattle.std.proofs.lemmas.Bool.{le-ltb, lt-ltb, cases_lt, ne_eqb}
use Rattle.semantics.specs.Value.{Assignment}
use Rattle.aig_core.specs.declared.gate.Gate.{Gate}
use Rattle.aig_core.specs.Graph.{GraphValue, gate_at, input_node, gate_node, node_count, IsGraph, literal_value, gate_value, IsConsistent, round, after_rounds, value_of, HasOneValue}

-- a node is the constant, an input or a gate
pub constant_input_or_gate : (g : GraphValue) (n : ℕ) → n < node_count g
    → (n ≡ 0) ⊎ (((i : ℕ) × (i < g.inputs) × (n ≡ input_node i)) ⊎ ((i : ℕ) × (i < length g.gates) × (n ≡ gate_node g i)))
constant_input_or_gate g zero within = inl refl
constant_input_or_gate g (suc n) within =
    elim (cases_lt n g.inputs) [
      | inl low ↦ inr (inl (n, low, omega arith))
      | inr high ↦ inr (inr (n - g.inputs, omega arith, omega arith))
    ]

-- a gate reads only its two nodes
pub literal_same : (v w : Assignment) (l : ℕ) → v (l / 2) ≡ w (l / 2) → literal_value v l ≡ literal_value w l
literal_same v w l same = ap (λ t. cond (l % 2 == 1) (not t) t) same

gate_same : (gate : Gate) (v w : Assignment) → v (gate.left / 2) ≡ w (gate.left / 2) → v (gate.right / 2) ≡ w (gate.right / 2) → gate_value v gate ≡ gate_value w gate
gate_same gate v w left right = λ i. literal_same v w gate.left left i && literal_same v w gate.right right i

-- a round at an input and at a gate
round-input : (g : GraphValue) (x : List Bool) (v : Assignment) (i : ℕ) → i < g.inputs → round g x v (input_node i) ≡ get_or x i false
round-input g x v i low =
    let other : input_node i ≢ 0 = (λ e. omega (arith, e)) in
    let below : input_node i < gate_node g 0 = omega arith in
    let back : input_node i - 1 ≡ i = omega arith in
    rw (ne_eqb (input_node i) 0 other, lt-ltb (input_node i) (gate_node g 0) below) (ap (λ j. get_or x j false) back)

round-gate : (g : GraphValue) (x : List Bool) (v : Assignment) (i : ℕ) → round g x v (gate_node g i) ≡ gate_value v (gate_at g i)
round-gate g x v i =
    let other : gate_node g i ≢ 0 = (λ e. omega (arith, e)) in
    let past : gate_node g 0 ≤ gate_node g i = omega arith in
    let back : gate_node g i - gate_node g 0 ≡ i = omega arith in
    rw (ne_eqb (gate_node g i) 0 other, le-ltb (gate_node g i) (gate_node g 0) past) (ap (λ j. gate_value v (gate_at g j)) back)

module _ (g : GraphValue) (x : List Bool) (is : IsGraph g) where
  left_before : (i : ℕ) → i < length g.gates → (gate_at g i).left / 2 < gate_node g i
  left_before i low = omega (arith, is.apart i low, is.before i low)

  -- after more rounds than a node's number it has the value of every consistent assignment
  reached : (v : Assignment) → IsConsistent g x v → (k n : ℕ) → n < k → n < node_count g → v n ≡ after_rounds g x k n
  unfolding after_rounds
  reached v consistent zero n low inside = absurd (omega arith)
  reached v consistent (suc k) n low inside = elim (constant_input_or_gate g n inside) [
    | inl here ↦ rw here consistent.constant
    | inr (inl (i, within, here)) ↦ rw here (consistent.input i within ∙ sym (round-input g x (after_rounds g x k) i within))
    | inr (inr (i, within, here)) ↦
        rw here
        (consistent.gate i within
        ∙ gate_same (gate_at g i) v (after_rounds g x k)
        (reached v consistent k ((gate_at g i).left / 2) (omega (arith, here, left_before i within)) (omega (arith, here, left_before i within)))
        (reached v consistent k ((gate_at g i).right / 2) (omega (arith, here, is.before i within)) (omega (arith, here, is.before i within)))
        ∙ sym (round-gate g x (after_rounds g x k) i))
  ]

  -- and then it does not change
  settled : (k m n : ℕ) → n < k → n < m → n < node_count g → after_rounds g x k n ≡ after_rounds g x m n
  unfolding after_rounds
  settled zero m n low below inside = absurd (omega arith)
  settled (suc k) zero n low below inside = absurd (omega arith)
  settled (suc k) (suc m) n low below inside = elim (constant_input_or_gate g n inside) [
    | inl here ↦ rw here refl
    | inr (inl (i, within, here)) ↦ rw here (round-input g x (after_rounds g x k) i within ∙ sym (round-input g x (after_rounds g x m) i within))
    | inr (inr (i, within, here)) ↦
        rw here
        (round-gate g x (after_rounds g x k) i
        ∙ gate_same (gate_at g i) (after_rounds g x k) (after_rounds g x m)
        (settled k m ((gate_at g i).left / 2) (omega (arith, here, left_before i within)) (omega (arith, here, left_before i within)) (omega (arith, here, left_before i within)))
        (settled k m ((gate_at g i).right / 2) (omega (arith, here, is.before i within)) (omega (arith, here, is.before i within)) (omega (arith, here, is.before i within)))
        ∙ sym (round-gate g x (after_rounds g x m) i))
  ]

  settled_gate : (i : ℕ) → i < length g.gates → value_of g x (gate_node g i) ≡ gate_value (value_of g x) (gate_at g i)
  unfolding after_rounds value_of
  settled_gate i within =
      let n : ℕ = node_count g in
      round-gate g x (after_rounds g x n) i
      ∙ gate_same (gate_at g i) (after_rounds g x n) (after_rounds g x (suc n))
      (settled n (suc n) ((gate_at g i).left / 2) (omega (arith, left_before i within)) (omega (arith, left_before i within)) (omega (arith, left_before i within)))
      (settled n (suc n) ((gate_at g i).right / 2) (omega (arith, is.before i within)) (omega (arith, is.before i within)) (omega (arith, is.before i within)))

  pub value_law : HasOneValue g x
  unfolding after_rounds value_of
  value_law = record {
    consistent = record { constant = refl; input = λ i within. round-input g x (after_rounds g x (node_count g)) i within; gate = settled_gate };
    only = λ v consistent n inside. reached v consistent (suc (node_count g)) n (omega arith) inside;
  }
