-- Wide words of a graph's nodes, lane by lane.
use Rattle.std.proofs.Common.{◌≡◌, ◌≢◌, ℕ, ◌+◌, ◌*◌, ◌/◌, ◌%◌, ◌<◌, ◌==◌, Bool, true, false, cond, not, ◌&&◌, List, [], length, get_or, set, refl, ap, sym, subst, ◌∙◌, inl, inr, arith}
use Rattle.std.proofs.Common.{get_or-set_same, get_or-set_other}
use Rattle.std.specs.Prelude.{bit_and, bit_xor}
use Rattle.std.proofs.lemmas.Bool.{cases_eq}
use Rattle.std.proofs.lemmas.List.{ext_get_or, length-map, get_or-map}
use Rattle.semantics.specs.Net.{NetValue, IsSound}
use Rattle.semantics.specs.Value.{outputs_of}
use Rattle.lane_bits.specs.Rows.{row_bit, turned}
use Rattle.lane_bits.specs.Patterns.{PatternSet, pattern_bit}
use Rattle.lane_bits.proofs.Bits.{and_bit, xor_bit}
use Rattle.aig_core.specs.declared.gate.Gate.{Gate}
use Rattle.aig_core.specs.Graph.{GraphValue, gate_at, input_node, gate_node, IsGraph, literal_value, value_of, HasOneValue}
use Rattle.aig_core.specs.Signals.{IsGraphOf}
use Rattle.aig_core.proofs.Rounds.{value_law, constant_input_or_gate, literal_same}
use Rattle.lane_nets.specs.Words.{word_bit, values_at}
use Rattle.lane_nets.specs.Blocks.{vector_at}
use Rattle.lane_nets.specs.Lanes.{lane_at}
use Rattle.lane_nets.specs.Wide.{lane_words, AreWideOutputs}
use Rattle.lane_nets.specs.Graphs.{HasInputNodes, IsGraphBlock}
use Rattle.lane_nets.specs.Schedules.{IsSameNode}
use Rattle.lane_nets.specs.Changes.{IsInputAt}
use Rattle.lane_nets.proofs.RowBits.{row_bit-word}
use Rattle.lane_nets.proofs.WordBits.{zero_bit}
use Rattle.lane_nets.proofs.WideWords.{lane_words_get, lane_words-set, lane_words-length}

-- ---- one wide word is set

pub value_set_same : (wides : List (List ℕ)) (i : ℕ) (wide : List ℕ) (j b : ℕ) → i < length wides → values_at (lane_words (set wides i wide) j) b i ≡ word_bit (get_or wide j 0) b
value_set_same wides i wide j b room =
    ap (λ l. word_bit (get_or l i 0) b) (lane_words-set wides i wide j)
    ∙ ap (λ w. word_bit w b) (get_or-set_same (lane_words wides j) i (get_or wide j 0) 0 (omega (arith, room, lane_words-length wides j)))

pub value_set_other : (wides : List (List ℕ)) (i : ℕ) (wide : List ℕ) (j b s : ℕ) → s ≢ i → values_at (lane_words (set wides i wide) j) b s ≡ values_at (lane_words wides j) b s
value_set_other wides i wide j b s other =
    ap (λ l. word_bit (get_or l s 0) b) (lane_words-set wides i wide j) ∙ ap (λ w. word_bit w b) (get_or-set_other (lane_words wides j) i s (get_or wide j 0) 0 other)

-- ---- literals

turned_if : (t b : Bool) → turned t b ≡ cond t (not b) b
turned_if true b = refl
turned_if false b = refl

pub literal-lane : (wides : List (List ℕ)) (j b l word sign : ℕ) → word ≡ get_or (get_or wides (l / 2) []) j 0 → word_bit sign b ≡ (l % 2 == 1)
    → word_bit (bit_xor word sign) b ≡ literal_value (values_at (lane_words wides j) b) l
literal-lane wides j b l word sign at is =
    xor_bit word sign b
    ∙ ap (λ t. turned t (word_bit word b)) is
    ∙ turned_if (l % 2 == 1) (word_bit word b)
    ∙ ap (λ t. cond (l % 2 == 1) (not t) t) (ap (λ w. word_bit w b) (at ∙ sym (lane_words_get wides j (l / 2))))

-- ---- gate after gate

-- in each lane, at each pattern the first m nodes have their values, where the constant and the inputs have theirs in the words at the start
abbrev pub HaveNodesFrom : GraphValue → List (List ℕ) → ℕ → List (List ℕ) → Type 0
HaveNodesFrom g start m wides =
    (j b : ℕ) (x : List Bool) → j < 8 → b < 64 → HasInputNodes g (lane_words start j) b x → (n : ℕ) → n < m → values_at (lane_words wides j) b n ≡ value_of g x n

pub nodes_none : (g : GraphValue) (start : List (List ℕ)) → IsGraph g → HaveNodesFrom g start (gate_node g 0) start
nodes_none g start graph j b x lane low inputs n within =
    let law : HasOneValue g x = value_law g x graph in
    elim (constant_input_or_gate g n (omega (arith, within))) [
      | inl here ↦ ap (λ k. values_at (lane_words start j) b k) here ∙ inputs.constant ∙ sym (ap (value_of g x) here ∙ law.consistent.constant)
      | inr (inl (i, inside, here)) ↦ ap (λ k. values_at (lane_words start j) b k) here ∙ inputs.inputs i inside ∙ sym (ap (value_of g x) here ∙ law.consistent.input i inside)
      | inr (inr (i, inside, here)) ↦ absurd (omega (arith, within, here))
    ]

-- what a gate reads stands before it
pub left_before : (g : GraphValue) (i : ℕ) (gate : Gate) → IsGraph g → i < length g.gates → gate ≡ gate_at g i → gate.left / 2 < gate_node g i
left_before g i gate graph low is = subst (λ (k : Gate). k.left / 2 < gate_node g i) (sym is) (omega (arith, graph.apart i low, graph.before i low))

pub right_before : (g : GraphValue) (i : ℕ) (gate : Gate) → IsGraph g → i < length g.gates → gate ≡ gate_at g i → gate.right / 2 < gate_node g i
right_before g i gate graph low is = subst (λ (k : Gate). k.right / 2 < gate_node g i) (sym is) (graph.before i low)

module _ (g : GraphValue) (start wides : List (List ℕ)) (i : ℕ) (gate : Gate) (left right wide : List ℕ) (graph : IsGraph g) (low : i < length g.gates) (read : gate ≡ gate_at g i)
    (room : gate_node g i < length wides)
    (lefts : (j b : ℕ) → j < 8 → b < 64 → word_bit (get_or left j 0) b ≡ literal_value (values_at (lane_words wides j) b) gate.left)
    (rights : (j b : ℕ) → j < 8 → b < 64 → word_bit (get_or right j 0) b ≡ literal_value (values_at (lane_words wides j) b) gate.right)
    (both : (j : ℕ) → j < 8 → get_or wide j 0 ≡ bit_and (get_or left j 0) (get_or right j 0)) where
  gate_bit : (j b : ℕ) (x : List Bool) → j < 8 → b < 64 → ((n : ℕ) → n < gate_node g i → values_at (lane_words wides j) b n ≡ value_of g x n)
      → word_bit (get_or wide j 0) b ≡ value_of g x (gate_node g i)
  gate_bit j b x lane below before =
      ap (λ w. word_bit w b) (both j lane)
      ∙ and_bit (get_or left j 0) (get_or right j 0) b
      ∙ (λ t. (lefts j b lane below ∙ literal_same (values_at (lane_words wides j) b) (value_of g x) gate.left (before (gate.left / 2) (left_before g i gate graph low read))) t
      && (rights j b lane below ∙ literal_same (values_at (lane_words wides j) b) (value_of g x) gate.right (before (gate.right / 2) (right_before g i gate graph low read))) t)
      ∙ ap (λ (k : Gate). literal_value (value_of g x) k.left && literal_value (value_of g x) k.right) read
      ∙ sym ((value_law g x graph).consistent.gate i low)

  pub nodes_more : HaveNodesFrom g start (gate_node g i) wides → HaveNodesFrom g start (gate_node g (i + 1)) (set wides (gate_node g i) wide)
  nodes_more before j b x lane below inputs n within =
      elim (cases_eq n (gate_node g i)) [
        | inl e ↦
            ap (λ k. values_at (lane_words (set wides (gate_node g i) wide) j) b k) e
            ∙ value_set_same wides (gate_node g i) wide j b room
            ∙ gate_bit j b x lane below (before j b x lane below inputs)
            ∙ ap (value_of g x) (sym e)
        | inr other ↦ value_set_other wides (gate_node g i) wide j b n other ∙ before j b x lane below inputs n (omega (arith, within, other))
      ]

-- ---- blocks

pub constant_set : (wides : List (List ℕ)) (zeros : List ℕ) → 0 < length wides → ((j : ℕ) → j < 8 → get_or zeros j 0 ≡ 0)
    → (j b : ℕ) → j < 8 → b < 64 → values_at (lane_words (set wides 0 zeros) j) b 0 ≡ false
constant_set wides zeros room are j b lane low = value_set_same wides 0 zeros j b room ∙ ap (λ w. word_bit w b) (are j lane) ∙ zero_bit b

pub constant_stays : (wides : List (List ℕ)) (n : ℕ) (wide : List ℕ) → ((j b : ℕ) → j < 8 → b < 64 → values_at (lane_words wides j) b 0 ≡ false)
    → (j b : ℕ) → j < 8 → b < 64 → values_at (lane_words (set wides (1 + n) wide) j) b 0 ≡ false
constant_stays wides n wide before j b lane low = let other : 0 ≢ 1 + n = (λ e. omega (arith, e)) in value_set_other wides (1 + n) wide j b 0 other ∙ before j b lane low

-- the input that is set has its bits
pub input_read : (vectors : List (List Bool)) (wides : List (List ℕ)) (row wide : List ℕ) (q n : ℕ) → 1 + n < length wides → ((p : ℕ) → row_bit row p ≡ pattern_bit vectors n p)
    → ((j : ℕ) → j < 8 → get_or wide j 0 ≡ get_or row (8 * q + j) 0)
    → (j b : ℕ) → j < 8 → b < 64 → values_at (lane_words (set wides (1 + n) wide) j) b (input_node n) ≡ pattern_bit vectors n (64 * (8 * q + j) + b)
input_read vectors wides row wide q n room bits is j b lane low =
    value_set_same wides (1 + n) wide j b room
    ∙ ap (λ w. word_bit w b) (is j lane)
    ∙ sym (row_bit-word row (8 * q + j) b low)
    ∙ bits (64 * (8 * q + j) + b)

pub inputs_set : (s : PatternSet) (q : ℕ) (wides : List (List ℕ)) (n : ℕ) (wide : List ℕ) → 1 + n < length wides → IsInputAt s q (set wides (1 + n) wide) n
    → ((i : ℕ) → i < n → IsInputAt s q wides i) → (i : ℕ) → i < n + 1 → IsInputAt s q (set wides (1 + n) wide) i
inputs_set s q wides n wide room here before i low =
    elim (cases_eq i n) [
      | inl e ↦ subst (λ k. IsInputAt s q (set wides (1 + n) wide) k) (sym e) here
      | inr other ↦
          let apart : input_node i ≢ 1 + n = (λ e. omega (arith, other, e)) in
          λ j b lane below. value_set_other wides (1 + n) wide j b (input_node i) apart ∙ before i (omega (arith, low, other)) j b lane below
    ]

pub inputs_kept : (s : PatternSet) (q : ℕ) (start wides : List (List ℕ)) (n : ℕ) → IsSameNode start wides (1 + n) → IsInputAt s q start n → ((i : ℕ) → i < n → IsInputAt s q wides i)
    → (i : ℕ) → i < n + 1 → IsInputAt s q wides i
inputs_kept s q start wides n same here before i low =
    elim (cases_eq i n) [
      | inl e ↦ subst (λ k. IsInputAt s q wides k) (sym e) (λ j b lane below. same j b lane below ∙ here j b lane below)
      | inr other ↦ before i (omega (arith, low, other))
    ]

-- one more output
pub literals_more : (outputs literals : List ℕ) (wides found : List (List ℕ)) (n literal : ℕ) (wide : List ℕ) → n < length found → literal ≡ get_or literals (get_or outputs n 0) 0
    → ((j b : ℕ) → j < 8 → b < 64 → word_bit (get_or wide j 0) b ≡ literal_value (values_at (lane_words wides j) b) literal)
    → ((j b i : ℕ) → j < 8 → b < 64 → i < n → values_at (lane_words found j) b i ≡ literal_value (values_at (lane_words wides j) b) (get_or literals (get_or outputs i 0) 0))
    → (j b i : ℕ) → j < 8 → b < 64 → i < n + 1
    → values_at (lane_words (set found n wide) j) b i ≡ literal_value (values_at (lane_words wides j) b) (get_or literals (get_or outputs i 0) 0)
literals_more outputs literals wides found n literal wide room at is before j b i lane low within =
    elim (cases_eq i n) [
      | inl e ↦
          ap (λ k. values_at (lane_words (set found n wide) j) b k) e
          ∙ value_set_same found n wide j b room
          ∙ is j b lane low
          ∙ ap (literal_value (values_at (lane_words wides j) b)) (at ∙ ap (λ k. get_or literals (get_or outputs k 0) 0) (sym e))
      | inr other ↦ value_set_other found n wide j b i other ∙ before j b i lane low (omega (arith, within, other))
    ]

-- the outputs, from the values of the nodes
pub graph_outputs : (N : NetValue) (g : GraphValue) (literals : List ℕ) (vectors : List (List Bool)) (q : ℕ) (wides outputs : List (List ℕ)) → IsSound N → IsGraphOf N g literals
    → IsGraphBlock g vectors q wides → length outputs ≡ length N.outputs
    → ((j b i : ℕ) → j < 8 → b < 64 → i < length N.outputs → values_at (lane_words outputs j) b i ≡ literal_value (values_at (lane_words wides j) b) (get_or literals (get_or N.outputs i 0) 0))
    → AreWideOutputs N vectors q outputs
unfolding outputs_of
graph_outputs N g literals vectors q wides outputs sound graph block count are j lane = record {
  width = lane_words-length outputs j ∙ count;
  lanes = λ b low.
      let x : List Bool = vector_at vectors (64 * (8 * q + j) + b) in
      ext_get_or false (lane_at (lane_words outputs j) b) (outputs_of N x)
      (length-map (lane_words outputs j) _ ∙ lane_words-length outputs j ∙ count ∙ sym (length-map N.outputs _))
      (λ i below.
      let inside : i < length N.outputs = omega (arith, below, length-map (lane_words outputs j) (λ w. word_bit w b), lane_words-length outputs j, count) in
      let signal = graph.signals (get_or N.outputs i 0) (sound.outputs_are_signals i 0 inside) in
      get_or-map (λ w. word_bit w b) (lane_words outputs j) i 0 false (omega (arith, inside, lane_words-length outputs j, count))
      ∙ are j b i lane low inside
      ∙ literal_same (values_at (lane_words wides j) b) (value_of g x) (get_or literals (get_or N.outputs i 0) 0)
      (block j b lane low (get_or literals (get_or N.outputs i 0) 0 / 2) (omega (arith, signal.within)))
      ∙ signal.is x
      ∙ sym (get_or-map _ N.outputs i 0 false inside));
}
