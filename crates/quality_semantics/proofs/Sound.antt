-- A network under construction makes a sound net.
use Rattle.std.proofs.Common.{◌≡◌, ◌≢◌, ℕ, ◌-◌, ◌^◌, ◌<◌, ◌≤◌, List, [], ◌∷◌, map, length, get_or, decimal, codes, cond, ltb, inl, inr, refl, ap, sym, subst, arith, length-append}
use Rattle.std.specs.List.{range_with_len}
use Rattle.std.proofs.lemmas.Fmt.{decimal_injective}
use Rattle.std.proofs.lemmas.Bool.{cases_lt, lt-ltb, le-ltb}
use Rattle.std.proofs.lemmas.List.{get_or_append_left, get_or-append_right, length-map, get_or-map, get_or_default}
use Rattle.std.proofs.lemmas.List.Elements.{All-from_recursion}
use Rattle.std.proofs.lemmas.List.FromFn.{get_or-map-range_with_len, length-map-range_with_len}
use Rattle.semantics.specs.Net.{TableValue, NetValue, no_table, input_count, signal_names, IsNameByte, IsName, IsTable, IsSound}
use Rattle.semantics.specs.Value.{outputs_of}
use Rattle.semantics.specs.declared.metric.Metric.{Metric}
use Rattle.semantics.proofs.Order.{IsAcyclic-in_order}
use Rattle.semantics.proofs.NumberedNames.{IsName-numbered}
use Rattle.quality_semantics.specs.WordNets.{WordNetValue, signals, net_of, AreSignalsOf, IsWordTable, IsWordNet}
use Rattle.quality_semantics.specs.Quality.{quality, quality_net, TellsExcess}
use Rattle.quality_semantics.proofs.Words.{quality_inputs, quality_formed, quality_output, quality_value}

pub IsName-word : IsName (codes "word")
IsName-word = record {
  not_empty = omega arith;
  short = omega arith;
  printable = All-from_recursion IsNameByte (codes "word")
      ((omega arith, omega arith, omega arith), ((omega arith, omega arith, omega arith), ((omega arith, omega arith, omega arith), ((omega arith, omega arith, omega arith), tt))));
  ending = λ e. omega (arith, e);
}

-- the name of signal s of a network of n inputs
name_at : ℕ → ℕ → List ℕ
name_at n s = cond (ltb s n) (120 ∷ decimal s) (116 ∷ decimal (s - n))

name_at-differs : (n s t : ℕ) → s < t → t < 2 ^ 32 → name_at n s ≢ name_at n t
unfolding name_at
name_at-differs n s t below small =
    elim (cases_lt t n) [
      | inl t_in ↦ rw (lt-ltb t n t_in, lt-ltb s n (omega arith)) (λ e. let same : decimal s ≡ decimal t = cc in let equal = decimal_injective s t (omega arith) (omega arith) same in omega arith)
      | inr t_out ↦ elim (cases_lt s n) [
        | inl s_in ↦ rw (le-ltb t n t_out, lt-ltb s n s_in) (λ e. let heads : ◌≡◌ {A = ℕ} 120 116 = ap (λ (name : List ℕ). get_or name 0 0) e in omega arith)
        | inr s_out ↦ rw (le-ltb t n t_out, le-ltb s n s_out)
            (λ e. let same : decimal (s - n) ≡ decimal (t - n) = cc in let equal = decimal_injective (s - n) (t - n) (omega arith) (omega arith) same in omega arith)
      ]
    ]

names_at : (W : WordNetValue) (outputs : List ℕ) → IsWordNet W → (s : ℕ) (d : List ℕ) → s < signals W → get_or (signal_names (net_of W outputs)) s d ≡ name_at W.inputs s
unfolding name_at
names_at W outputs h s d within =
    let inputs : List (List ℕ) = map (λ i. 120 ∷ decimal i) (range_with_len 0 W.inputs) in
    let width : length inputs ≡ W.inputs = length-map-range_with_len (λ i. 120 ∷ decimal i) 0 W.inputs in
    elim (cases_lt s W.inputs) [
      | inl low ↦ rw (lt-ltb s W.inputs low, get_or_append_left inputs (map (λ t. t.name) W.tables) d s (omega arith))
          (get_or-map-range_with_len (λ i. 120 ∷ decimal i) 0 W.inputs s s d low (omega arith))
      | inr high ↦
          rw (
            le-ltb s W.inputs high,
            get_or-append_right inputs (map (λ t. t.name) W.tables) W.inputs s d width high,
            get_or-map (λ (t : TableValue). t.name) W.tables (s - W.inputs) no_table d (omega arith),
          )
          (h.formed (s - W.inputs) (omega arith)).name
    ]

pub input_count-net_of : (W : WordNetValue) (outputs : List ℕ) → input_count (net_of W outputs) ≡ W.inputs
input_count-net_of W outputs = length-map-range_with_len (λ i. 120 ∷ decimal i) 0 W.inputs

names_count : (W : WordNetValue) (outputs : List ℕ) → length (signal_names (net_of W outputs)) ≡ signals W
names_count W outputs =
    omega (arith, length-append (net_of W outputs).inputs (map (λ t. t.name) W.tables), length-map W.tables (λ (t : TableValue). t.name), input_count-net_of W outputs)

IsTable-formed : (i : ℕ) (t : TableValue) → i < 2 ^ 32 → IsWordTable i t → IsTable t
IsTable-formed i t small h = record { named = rw h.name (IsName-numbered 116 i (omega arith, omega arith, omega arith) (omega (arith, small))); widths = h.widths; plane = λ _. h.plane }

pub IsSound-net_of : (W : WordNetValue) (outputs : List ℕ) → IsWordNet W → signals W ≤ 2 ^ 30 → 0 < length outputs → AreSignalsOf W outputs → IsSound (net_of W outputs)
IsSound-net_of W outputs h few some outputs_in =
    let width = input_count-net_of W outputs in
    record {
      model_named = IsName-word;
      inputs_named = λ k d within. let low : k < W.inputs
          = rw (← width) within in rw (get_or-map-range_with_len (λ i. 120 ∷ decimal i) 0 W.inputs k k d low (omega arith))
          (IsName-numbered 120 k (omega arith, omega arith, omega arith) (omega (arith, few)));
      tables_formed = λ k d within. rw (get_or_default W.tables k d no_table within) (IsTable-formed k _ (omega (arith, few)) (h.formed k within));
      names_differ = λ i j d below within. let j_in : j < signals W
          = rw (← names_count W outputs) within in rw (names_at W outputs h i d (omega arith), names_at W outputs h j d j_in) (name_at-differs W.inputs i j below (omega (arith, few)));
      has_output = some;
      outputs_are_signals = rw width outputs_in;
      pins_are_signals = λ k d within. rw (get_or_default W.tables k d no_table within, width) (λ p e inside. let before = h.in_order k within p e inside in omega arith);
      acyclic = rw width (IsAcyclic-in_order W.inputs W.tables h.in_order);
    }

pub quality_sound : (metric : Metric) (w k : ℕ) → signals (quality metric w k).net ≤ 2 ^ 30 → IsSound (quality_net metric w k)
quality_sound metric w k few =
    let Q = quality metric w k in
    IsSound-net_of Q.net (Q.signal ∷ []) (quality_formed metric w k) few (omega arith) (All-from_recursion (λ s. s < signals Q.net) (Q.signal ∷ []) (quality_output metric w k, tt))

pub quality_tells : (metric : Metric) (w k : ℕ) → TellsExcess metric w k (quality_net metric w k)
unfolding outputs_of
quality_tells metric w k x width =
    let Q = quality metric w k in
    rw (input_count-net_of Q.net (Q.signal ∷ []), quality_inputs metric w k) (ap (λ bit. bit ∷ []) (quality_value metric w k x width))

-- a net that was finished from the network with its output
pub TellsExcess-made : (metric : Metric) (w k : ℕ) (W : WordNetValue) (s : ℕ) (N : NetValue) → W ≡ (quality metric w k).net → s ≡ (quality metric w k).signal → N ≡ net_of W (s ∷ [])
    → TellsExcess metric w k N
TellsExcess-made metric w k W s N net signal e =
    let is : N ≡ quality_net metric w k = rw (e, net, signal) refl in
    subst (λ M. TellsExcess metric w k M) (sym is) (quality_tells metric w k)
