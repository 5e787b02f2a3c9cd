-- Nodes do not change when gates are added, and what is proved of literals stays true.
use Rattle.std.proofs.Common.{◌≡◌, ◌≢◌, ℕ, ◌+◌, ◌*◌, ◌/◌, ◌==◌, ◌<◌, ◌≤◌, ◌⊎◌, inl, inr, Bool, true, false, cond, ◌&&◌, List, [], ◌∷◌, ◌++◌, length, get_or, refl, sym, ap, subst, ◌∙◌, arith}
use Rattle.std.proofs.Common.{length-append, true≢false}
use Rattle.std.specs.Prelude.{slice_get, Some, AllPairs}
use Rattle.std.proofs.Math.Seq.{get_or-append_seam}
use Rattle.std.specs.Bool.{Decides}
use Rattle.std.specs.List.{IsDistinct}
use Rattle.std.proofs.lemmas.Bool.{cases_lt, eqb-true, eq-eqb}
use Rattle.std.proofs.lemmas.Map.Made.{AllPairs-from_IsDistinct}
use Rattle.std.proofs.lemmas.List.{get_or_append_left}
use Rattle.std.proofs.lemmas.Option.{get_or_from_slice_get}
use Rattle.semantics.specs.Value.{Assignment}
use Rattle.aig_core.specs.declared.gate.Gate.{Gate}
use Rattle.aig_core.specs.Graph.{GraphValue, no_gate, gate_at, gate_node, node_count, IsLiteralOf, IsGraph, gate_value, IsConsistent, value_of, truth_of, HasOneValue}
use Rattle.aig_core.specs.Grown.{Grows, AddsAtMost, HasValue, IsInputOf, IsConjunctionOf}
use Rattle.aig_core.proofs.Rounds.{value_law, literal_same}
use Rattle.aig_core.proofs.Literals.{value-even}

pub grows_refl : (g : GraphValue) → Grows g g
grows_refl g = record { inputs = refl; longer = omega arith; same = λ i low. refl }

pub grows_trans : (a b c : GraphValue) → Grows a b → Grows b c → Grows a c
grows_trans a b c ab bc = record {
  inputs = bc.inputs ∙ ab.inputs;
  longer = omega (arith, ab.longer, bc.longer);
  same = λ i low. bc.same i (omega (arith, ab.longer)) ∙ ab.same i low;
}

pub consistent_before : (old new : GraphValue) (x : List Bool) (v : Assignment) → Grows old new → IsConsistent new x v → IsConsistent old x v
consistent_before old new x v grows is = record {
  constant = is.constant;
  input = λ i low. is.input i (omega (arith, grows.inputs));
  gate = λ i low.
      let node : gate_node old i ≡ gate_node new i = omega (arith, grows.inputs) in
      ap v node ∙ is.gate i (omega (arith, grows.longer)) ∙ ap (gate_value v) (grows.same i low);
}

pub literal_later : (old new : GraphValue) (l : ℕ) → Grows old new → IsLiteralOf old l → IsLiteralOf new l
literal_later old new l grows low = omega (arith, grows.inputs, grows.longer, low)

pub value_later : (old new : GraphValue) (r : ℕ) (value : List Bool → Assignment → Bool) → Grows old new → HasValue old r value → HasValue new r value
value_later old new r value grows is x v val = is x v (consistent_before old new x v grows val)

-- ---- the laws

module _ (old new : GraphValue) (x : List Bool) (is_old : IsGraph old) (is_new : IsGraph new) (grows : Grows old new) where
  pub node_stays : (n : ℕ) → n < node_count old → value_of new x n ≡ value_of old x n
  node_stays n low =
      let law : HasOneValue old x = value_law old x is_old in
      let later : HasOneValue new x = value_law new x is_new in
      law.only (value_of new x) (consistent_before old new x (value_of new x) grows later.consistent) n low

  pub literal_stays : (l : ℕ) → IsLiteralOf old l → truth_of new x l ≡ truth_of old x l
  literal_stays l low = literal_same (value_of new x) (value_of old x) l (node_stays (l / 2) (omega (arith, low)))

pub truth_from_value : (g : GraphValue) (x : List Bool) (r : ℕ) (value : List Bool → Assignment → Bool) → IsGraph g → HasValue g r value → truth_of g x r ≡ value x (value_of g x)
truth_from_value g x r value is has = let law : HasOneValue g x = value_law g x is in has x (value_of g x) law.consistent

-- ---- inputs

pub input_is : (g : GraphValue) (i : ℕ) → i < g.inputs → IsInputOf g i (2 * (1 + i))
input_is g i low = record {
  within = omega arith;
  is = λ x v val. value-even v (2 * (1 + i)) (1 + i) refl ∙ val.input i low;
}

-- ---- one more gate

abbrev pub grown : GraphValue → Gate → GraphValue
grown g gate = record { inputs = g.inputs; gates = g.gates ++ gate ∷ [] }

length_push : (gates : List Gate) (gate : Gate) → length (gates ++ gate ∷ []) ≡ length gates + 1
length_push gates gate = omega (arith, length-append gates (gate ∷ []))

pub grows_push : (g : GraphValue) (gate : Gate) → Grows g (grown g gate)
grows_push g gate = record {
  inputs = refl;
  longer = omega (arith, length_push g.gates gate);
  same = λ i low. get_or_append_left g.gates (gate ∷ []) no_gate i low;
}

seam : (g : GraphValue) (gate : Gate) → gate_at (grown g gate) (length g.gates) ≡ gate
seam g gate = get_or-append_seam g.gates gate [] no_gate

-- a set of gates after one was put in: the same ones, or one more
abbrev pub with_gates : GraphValue → List Gate → GraphValue
with_gates g gates = record { inputs = g.inputs; gates = gates }

pub added_grows : (g : GraphValue) (gates : List Gate) (gate : Gate) (held : Bool) → gates ≡ cond held g.gates (g.gates ++ gate ∷ []) → Grows g (with_gates g gates)
added_grows g gates gate true is = subst (λ (gs : List Gate). Grows g (with_gates g gs)) (sym is) (grows_refl g)
added_grows g gates gate false is = subst (λ (gs : List Gate). Grows g (with_gates g gs)) (sym is) (grows_push g gate)

-- the gate is added, or nothing
pub added_once : (g : GraphValue) (gates : List Gate) (gate : Gate) (held : Bool) → gates ≡ cond held g.gates (g.gates ++ gate ∷ []) → AddsAtMost g gate (with_gates g gates)
added_once g gates gate true is = inl (ap (with_gates g) is)
added_once g gates gate false is = inr (ap (with_gates g) is)

pub added_few : (g : GraphValue) (gates : List Gate) (gate : Gate) (held : Bool) → gates ≡ cond held g.gates (g.gates ++ gate ∷ []) → length gates ≤ length g.gates + 1
added_few g gates gate true is = omega (arith, ap length is)
added_few g gates gate false is = omega (arith, ap length is, length_push g.gates gate)

-- each gate stood before, or is the new one
old_or_new : (g : GraphValue) (gates : List Gate) (gate : Gate) (held : Bool) → gates ≡ cond held g.gates (g.gates ++ gate ∷ [])
    → (i : ℕ) → i < length gates → ((i < length g.gates) × (gate_at (with_gates g gates) i ≡ gate_at g i)) ⊎ ((length g.gates ≤ i) × (gate_at (with_gates g gates) i ≡ gate))
old_or_new g gates gate true is i low = inl (omega (arith, ap length is), ap (λ (gs : List Gate). get_or gs i no_gate) is)
old_or_new g gates gate false is i low =
    elim (cases_lt i (length g.gates)) [
      | inl old ↦ inl (old, ap (λ (gs : List Gate). get_or gs i no_gate) is ∙ get_or_append_left g.gates (gate ∷ []) no_gate i old)
      | inr new ↦
          let here : i ≡ length g.gates = omega (arith, ap length is, length_push g.gates gate, new, low) in
          inr (new, ap (λ (gs : List Gate). get_or gs i no_gate) is ∙ ap (get_or_of (g.gates ++ gate ∷ [])) here ∙ seam g gate)
    ]
  where
    get_or_of : List Gate → ℕ → Gate
    get_or_of gs i = get_or gs i no_gate

pub added_graph : (g : GraphValue) (gates : List Gate) (gate : Gate) (held : Bool) → gates ≡ cond held g.gates (g.gates ++ gate ∷ []) → IsGraph g
    → 0 < gate.left / 2 → gate.left / 2 < gate.right / 2 → IsLiteralOf g gate.right → AllPairs ◌≢◌ gates → IsGraph (with_gates g gates)
added_graph g gates gate held is graph varying apart within distinct = record {
  varying = λ i low. elim (old_or_new g gates gate held is i low) [
    | inl (old, same) ↦ rw same (graph.varying i old)
    | inr (new, same) ↦ rw same varying
  ];
  apart = λ i low. elim (old_or_new g gates gate held is i low) [
    | inl (old, same) ↦ rw same (graph.apart i old)
    | inr (new, same) ↦ rw same apart
  ];
  before = λ i low. elim (old_or_new g gates gate held is i low) [
    | inl (old, same) ↦ rw same (graph.before i old)
    | inr (new, same) ↦ rw same (omega (arith, new, within))
  ];
  distinct = distinct;
}

-- the literal of a gate
pub gate_conjunction : (g : GraphValue) (at r : ℕ) (gate : Gate) → at < length g.gates → gate_at g at ≡ gate → r ≡ 2 * (1 + g.inputs + at) → IsConjunctionOf g gate.left gate.right r
gate_conjunction g at r gate low here is = record {
  within = omega (arith, low, is);
  is = λ x v val. value-even v r (gate_node g at) is ∙ val.gate at low ∙ ap (gate_value v) here;
}

-- ---- gates as keys of a set

-- how two gates are compared
abbrev pub are_alike : Gate → Gate → Bool
are_alike a b = (a.left == b.left) && (a.right == b.right)

both_true : (p q : Bool) → (p && q) ≡ true → (p ≡ true) × (q ≡ true)
both_true true q e = (refl, e)
both_true false q e = absurd (true≢false (sym e))

alike_same : (a b : Gate) → are_alike a b ≡ true → a ≡ b
alike_same a b e =
    let both = both_true (a.left == b.left) (a.right == b.right) e in
    let left : a.left ≡ b.left = eqb-true a.left b.left both.0 in
    let right : a.right ≡ b.right = eqb-true a.right b.right both.1 in
    λ i. record { left = left i; right = right i }

same_alike : (a b : Gate) → a ≡ b → are_alike a b ≡ true
same_alike a b e = λ i. eq-eqb a.left b.left (ap (λ (g : Gate). g.left) e) i && eq-eqb a.right b.right (ap (λ (g : Gate). g.right) e) i

alike_decides : (a b : Gate) → Decides (are_alike a b) (a ≡ b)
alike_decides a b = (alike_same a b, same_alike a b)

pub gates_differ : (gates : List Gate) → IsDistinct are_alike gates → AllPairs ◌≢◌ gates
gates_differ gates distinct = AllPairs-from_IsDistinct {eq = are_alike} alike_decides gates distinct

-- a gate that was stored at a place stands there
pub stored_gate : (gates : List Gate) (at : ℕ) (gate k : Gate) → slice_get gates at ≡ Some k → are_alike gate k ≡ true → get_or gates at no_gate ≡ gate
stored_gate gates at gate k found like = get_or_from_slice_get gates at k no_gate found ∙ sym (alike_same gate k like)
