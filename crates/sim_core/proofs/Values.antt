-- The rows of nodes, one after another.
use Rattle.std.proofs.Common.{◌≡◌, ℕ, ◌+◌, ◌*◌, ◌/◌, ◌%◌, ◌<◌, ◌≤◌, ◌==◌, Bool, true, false, cond, not, ◌&&◌, List, [], ◌++◌, length, get_or, replicate, refl, ap, sym, subst, ◌∙◌, inl, inr, arith}
use Rattle.std.proofs.Math.Nat.{mul-le-mul_right}
use Rattle.std.proofs.lemmas.Bool.{cases_eq}
use Rattle.std.proofs.lemmas.List.{get_or_past, get_or_append_left, get_or-replicate, length-replicate}
use Rattle.std.proofs.lemmas.Nat.Bits.{bit_at-zero}
use Rattle.lane_bits.proofs.Bits.{word_bit}
use Rattle.sim_core.proofs.Joined.{bit_from-is}
use Rattle.semantics.specs.Value.{Assignment}
use Rattle.lane_bits.specs.Rows.{row_bit, turned, word_count}
use Rattle.lane_bits.specs.Patterns.{pattern_bit}
use Rattle.aig_core.specs.declared.gate.Gate.{Gate}
use Rattle.aig_core.specs.Graph.{GraphValue, gate_at, input_node, gate_node, node_count, IsGraph, literal_value, gate_value, value_of, truth_of, HasOneValue}
use Rattle.aig_core.proofs.Rounds.{value_law, constant_input_or_gate}
use Rattle.sim_core.specs.Parts.{bit_from, StaysBefore}
use Rattle.sim_core.specs.Simulation.{vector_at, node_bit, HaveValues, IsRowOfValues}

-- a row ends before the next one begins
pub row_ends : (m n words : ℕ) → m < n → m * words + words ≤ n * words
row_ends m n words low = let more : (m + 1) * words ≤ n * words = mul-le-mul_right words (omega (arith, low)) in omega (arith, more)

bit_before : (m n words p : ℕ) → m < n → p < 64 * words → 64 * (m * words) + p < 64 * (n * words)
bit_before m n words p low within = omega (arith, row_ends m n words low, within)

turned_if : (t b : Bool) → turned t b ≡ cond t (not b) b
turned_if true b = refl
turned_if false b = refl

pub turned-literal : (v : Assignment) (l : ℕ) → turned (l % 2 == 1) (v (l / 2)) ≡ literal_value v l
turned-literal v l = turned_if (l % 2 == 1) (v (l / 2))

-- a pattern's bit stands in one of the words
within_words : (p count : ℕ) → p < count → p < 64 * word_count count
within_words p count low = omega (arith, low)

-- ---- the constant and the inputs

pub record HaveInputs (vectors : List (List Bool)) (words : ℕ) (rows : List ℕ) (m : ℕ) : Type 0 where
  pub constant : (p : ℕ) → p < 64 * words → node_bit words rows 0 p ≡ false
  pub inputs : (i p : ℕ) → i < m → p < 64 * words → node_bit words rows (input_node i) p ≡ pattern_bit vectors i p

-- words of zeros first
pub inputs_none : (vectors : List (List Bool)) (words m : ℕ) (zeros rest : List ℕ) → zeros ≡ replicate m 0 → m ≡ words → HaveInputs vectors words (zeros ++ rest) 0
inputs_none vectors words m zeros rest is wide = record {
  constant = λ p within.
      let inside : p / 64 < m = omega (arith, within, wide) in
      let long : length zeros ≡ m = ap length is ∙ length-replicate m 0 in
      bit_from-is (zeros ++ rest) (0 * words) p
      ∙ ap (λ w. word_bit w (p % 64))
      (ap (λ k. get_or (zeros ++ rest) k 0) (omega arith) ∙ get_or_append_left zeros rest 0 (p / 64) (omega (arith, inside, long)) ∙ ap (λ (xs : List ℕ). get_or xs (p / 64) 0) is ∙ get_or-replicate m
      (p / 64) 0 0 inside)
      ∙ ap (λ n. n == 1) (bit_at-zero (p % 64));
  inputs = λ i p low within. absurd (omega (arith, low));
}

pub inputs_more : (vectors : List (List Bool)) (words start i : ℕ) (row old new : List ℕ) → length row ≡ words → ((p : ℕ) → row_bit row p ≡ pattern_bit vectors i p)
    → start ≡ input_node i * words → ((p : ℕ) → p < 64 * length row → bit_from new start p ≡ row_bit row p) → StaysBefore start old new
    → HaveInputs vectors words old i → HaveInputs vectors words new (i + 1)
inputs_more vectors words start i row old new long is here bits before have = record {
  constant = λ p within.
      let low : 64 * (0 * words) + p < 64 * start = omega (arith, bit_before 0 (input_node i) words p (omega arith) within, here) in
      before (64 * (0 * words) + p) low ∙ have.constant p within;
  inputs = λ k p low within. elim (cases_eq k i) [
    | inl e ↦
        ap (λ n. node_bit words new (input_node n) p) e ∙ ap (λ s. bit_from new s p) (sym here) ∙ bits p (omega (arith, long, within)) ∙ is p ∙ ap (λ n. pattern_bit vectors n p) (sym e)
    | inr other ↦
        let less : 64 * (input_node k * words) + p < 64 * start = omega (arith, bit_before (input_node k) (input_node i) words p (omega (arith, low, other)) within, here) in
        before (64 * (input_node k * words) + p) less ∙ have.inputs k p (omega (arith, low, other)) within
  ];
}

pattern_past : (vectors : List (List Bool)) (i p : ℕ) → length vectors ≤ p → pattern_bit vectors i p ≡ false
pattern_past vectors i p past = ap (λ (x : List Bool). get_or x i false) (get_or_past vectors p [] past)

pub inputs_done : (g : GraphValue) (vectors : List (List Bool)) (rows : List ℕ) (m : ℕ) → IsGraph g → g.inputs ≡ m → HaveInputs vectors (word_count (length vectors)) rows m
    → HaveValues g vectors rows (gate_node g 0)
inputs_done g vectors rows m graph same have = record {
  values = λ n p low within.
      let x : List Bool = vector_at vectors p in
      let law : HasOneValue g x = value_law g x graph in
      elim (constant_input_or_gate g n (omega (arith, low))) [
        | inl here ↦
            ap (λ k. node_bit (word_count (length vectors)) rows k p) here ∙ have.constant p (within_words p (length vectors) within) ∙ sym (ap (value_of g x) here ∙ law.consistent.constant)
        | inr (inl (i, inside, here)) ↦
            ap (λ k. node_bit (word_count (length vectors)) rows k p) here ∙ have.inputs i p (omega (arith, inside, same)) (within_words p (length vectors) within)
            ∙ sym (ap (value_of g x) here ∙ law.consistent.input i inside)
        | inr (inr (i, inside, here)) ↦ absurd (omega (arith, low, here))
      ];
  clear = λ n p low past within.
      elim (constant_input_or_gate g n (omega (arith, low))) [
        | inl here ↦ ap (λ k. node_bit (word_count (length vectors)) rows k p) here ∙ have.constant p within
        | inr (inl (i, inside, here)) ↦
            ap (λ k. node_bit (word_count (length vectors)) rows k p) here ∙ have.inputs i p (omega (arith, inside, same)) within ∙ pattern_past vectors i p past
        | inr (inr (i, inside, here)) ↦ absurd (omega (arith, low, here))
      ];
}

-- ---- the gates

-- what a gate reads stands before it
pub left_before : (g : GraphValue) (i : ℕ) (gate : Gate) → IsGraph g → i < length g.gates → gate ≡ gate_at g i → gate.left / 2 < gate_node g i
left_before g i gate graph low is = subst (λ (k : Gate). k.left / 2 < gate_node g i) (sym is) (omega (arith, graph.apart i low, graph.before i low))

pub right_before : (g : GraphValue) (i : ℕ) (gate : Gate) → IsGraph g → i < length g.gates → gate ≡ gate_at g i → gate.right / 2 < gate_node g i
right_before g i gate graph low is = subst (λ (k : Gate). k.right / 2 < gate_node g i) (sym is) (graph.before i low)

module _ (g : GraphValue) (vectors : List (List Bool)) (old new : List ℕ) (i left right start words : ℕ) (turn_left turn_right : Bool) (gate : Gate) (graph : IsGraph g) (low : i < length g.gates)
    (is : gate ≡ gate_at g i) (wide : words ≡ word_count (length vectors)) (at : start ≡ gate_node g i * words) (left_at : left ≡ gate.left / 2 * words) (right_at : right ≡ gate.right / 2 * words)
    (left_sign : turn_left ≡ (gate.left % 2 == 1)) (right_sign : turn_right ≡ (gate.right % 2 == 1))
    (bits : (p : ℕ) → p < length vectors → bit_from new start p ≡ (turned turn_left (bit_from old left p) && turned turn_right (bit_from old right p)))
    (clear : (p : ℕ) → length vectors ≤ p → p < 64 * words → bit_from new start p ≡ false) (stays : StaysBefore start old new) (have : HaveValues g vectors old (gate_node g i)) where
  start_is : start ≡ gate_node g i * word_count (length vectors)
  start_is = at ∙ ap (λ w. gate_node g i * w) wide

  -- the value of a literal that the gate reads
  side_bit : (from l p : ℕ) (turn : Bool) → from ≡ l / 2 * words → turn ≡ (l % 2 == 1) → l / 2 < gate_node g i → p < length vectors
      → turned turn (bit_from old from p) ≡ literal_value (value_of g (vector_at vectors p)) l
  side_bit from l p turn from_is sign before within =
      let row : bit_from old from p ≡ value_of g (vector_at vectors p) (l / 2) =
      ap (λ s. bit_from old s p) (from_is ∙ ap (λ w. l / 2 * w) wide) ∙ have.values (l / 2) p before within in
      (λ j. turned (sign j) (row j)) ∙ turned-literal (value_of g (vector_at vectors p)) l

  gate_bit : (p : ℕ) → p < length vectors → bit_from new start p ≡ value_of g (vector_at vectors p) (gate_node g i)
  gate_bit p within =
      let x : List Bool = vector_at vectors p in
      let law : HasOneValue g x = value_law g x graph in
      bits p within
      ∙ (λ j. side_bit left gate.left p turn_left left_at left_sign (left_before g i gate graph low is) within j
      && side_bit right gate.right p turn_right right_at right_sign (right_before g i gate graph low is) within j)
      ∙ ap (gate_value (value_of g x)) is ∙ sym (law.consistent.gate i low)

  old_bit : (n p : ℕ) → n < gate_node g i → p < 64 * word_count (length vectors) → node_bit (word_count (length vectors)) new n p ≡ node_bit (word_count (length vectors)) old n p
  old_bit n p before within =
      let less : 64 * (n * word_count (length vectors)) + p < 64 * start = omega (arith, bit_before n (gate_node g i) (word_count (length vectors)) p before within, start_is) in
      stays (64 * (n * word_count (length vectors)) + p) less

  pub gates_more : HaveValues g vectors new (gate_node g (i + 1))
  gates_more = record {
    values = λ n p below within. elim (cases_eq n (gate_node g i)) [
      | inl here ↦
          ap (λ k. node_bit (word_count (length vectors)) new k p) here ∙ ap (λ s. bit_from new s p) (sym start_is) ∙ gate_bit p within ∙ ap (value_of g (vector_at vectors p)) (sym here)
      | inr other ↦ old_bit n p (omega (arith, below, other)) (within_words p (length vectors) within) ∙ have.values n p (omega (arith, below, other)) within
    ];
    clear = λ n p below past within. elim (cases_eq n (gate_node g i)) [
      | inl here ↦
          ap (λ k. node_bit (word_count (length vectors)) new k p) here ∙ ap (λ s. bit_from new s p) (sym start_is) ∙ clear p past (omega (arith, within, wide))
      | inr other ↦ old_bit n p (omega (arith, below, other)) within ∙ have.clear n p (omega (arith, below, other)) past within
    ];
  }

pub have_fewer : (g : GraphValue) (vectors : List (List Bool)) (rows : List ℕ) (m n : ℕ) → n ≤ m → HaveValues g vectors rows m → HaveValues g vectors rows n
have_fewer g vectors rows m n few have = record {
  values = λ k p low within. have.values k p (omega (arith, few, low)) within;
  clear = λ k p low past within. have.clear k p (omega (arith, few, low)) past within;
}

-- ---- the row of a literal

both_same : (b : Bool) → (b && b) ≡ b
both_same true = refl
both_same false = refl

module _ (g : GraphValue) (vectors : List (List Bool)) (rows part dst new : List ℕ) (l count words : ℕ) (turn : Bool) (few : l < 2 * node_count g) (same : count ≡ length vectors)
    (have : HaveValues g vectors rows (node_count g)) (sign : turn ≡ (l % 2 == 1)) (long : length dst ≡ word_count count) (wide : words ≡ length dst)
    (read : (p : ℕ) → p < 64 * words → row_bit part p ≡ bit_from rows (l / 2 * words) p)
    (bits : (p : ℕ) → p < 64 * words → row_bit dst p ≡ (turned turn (row_bit part p) && turned turn (row_bit part p)))
    (kept : (p : ℕ) → p < count → row_bit new p ≡ row_bit dst p) (clear : (p : ℕ) → count ≤ p → row_bit new p ≡ false) (length_new : length new ≡ length dst) where
  width : words ≡ word_count (length vectors)
  width = wide ∙ long ∙ ap word_count same

  pub literal_row : IsRowOfValues vectors (λ x. truth_of g x l) new
  literal_row = record {
    words = length_new ∙ long ∙ ap word_count same;
    bits = λ p low.
        let within : p < 64 * words = omega (arith, within_words p (length vectors) low, width) in
        let node : row_bit part p ≡ value_of g (vector_at vectors p) (l / 2) =
        read p within ∙ ap (λ w. node_bit w rows (l / 2) p) width ∙ have.values (l / 2) p (omega (arith, few)) low in
        kept p (omega (arith, same, low)) ∙ bits p within ∙ both_same (turned turn (row_bit part p)) ∙ (λ j. turned (sign j) (node j)) ∙ turned-literal (value_of g (vector_at vectors p)) l;
    clear = λ p past. clear p (omega (arith, same, past));
  }
