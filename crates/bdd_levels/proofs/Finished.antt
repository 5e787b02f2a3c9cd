-- The net that was finished says whether the error exceeds the level.
use Rattle.std.proofs.Common.{◌≡◌, ℕ, zero, suc, ◌+◌, ◌<◌, ◌≤◌, ltb, Bool, false, List, [], ◌∷◌, length, get_or, take, drop, map, refl, ap, sym, subst, ◌∙◌, arith, length-drop, drop-cons}
use Rattle.std.specs.Prelude.{decimal}
use Rattle.std.specs.List.{range_with_len}
use Rattle.std.proofs.lemmas.List.{take_all}
use Rattle.std.proofs.lemmas.List.FromFn.{length-map-range_with_len}
use Rattle.semantics.specs.Net.{TableValue, NetValue, table_at, input_count, IsSound}
use Rattle.semantics.specs.Value.{Assignment, table_value, value_of, outputs_of, IsConsistent}
use Rattle.semantics.specs.declared.metric.Metric.{Metric}
use Rattle.semantics.specs.Error.{error_of}
use Rattle.semantics.proofs.Values.{value_law}
use Rattle.quality_semantics.specs.Forms.{zero_form, one_form}
use Rattle.quality_semantics.specs.WordNets.{WordNetValue, table_of, started, net_of, BeginsWith}
use Rattle.quality_semantics.specs.Laws.{Fits}
use Rattle.bdd_levels.specs.Levels.{TellsLevel}
use Rattle.bdd_levels.specs.Words.{SaysExcess}

first_two : (ts : List TableValue) (a b : TableValue) → take 2 ts ≡ a ∷ b ∷ [] → (2 ≤ length ts) × (table_at ts 0 ≡ a) × (table_at ts 1 ≡ b)
first_two [] a b e = cc
first_two (s ∷ []) a b e = cc
first_two (s ∷ (t ∷ ts)) a b e = (omega arith, cc, cc)

fits_consistent : (v : Assignment) (W : WordNetValue) (x : List Bool) → BeginsWith W (started W.inputs) → IsConsistent W.inputs W.tables x v → Fits v W
fits_consistent v W x b h =
    let heads = first_two W.tables (table_of 0 zero_form) (table_of 1 one_form) b.tables in
    let here : W.inputs + 0 ≡ W.inputs = omega arith in
    let next : W.inputs + 1 ≡ suc W.inputs = omega arith in
    record {
      zero = subst (λ m. v m ≡ table_value (table_at W.tables 0) v) here (h.table 0 (omega (arith, heads.0))) ∙ ap (λ t. table_value t v) heads.1;
      one = subst (λ m. v m ≡ table_value (table_at W.tables 1) v) next (h.table 1 (omega (arith, heads.0))) ∙ ap (λ t. table_value t v) heads.2;
      table = h.table;
    }

inputs_bits : (v : Assignment) (x : List Bool) (from width : ℕ) → ((s : ℕ) → s < length x → v s ≡ get_or x s false) → from + width ≤ length x
    → map v (range_with_len from width) ≡ take width (drop from x)
inputs_bits v x from zero h few = refl
inputs_bits v x from (suc width) h few =
    let here : v from ≡ get_or x from false = h from (omega arith) in
    let rest = inputs_bits v x (from + 1) width h (omega arith) in
    let step = drop-cons x from false (omega arith) in
    let next : from + 1 ≡ suc from = omega arith in
    rw (step, here, rest, next) refl

module _ (metric : Metric) (n k : ℕ) (W : WordNetValue) (s : ℕ) (is : SaysExcess metric n k W s) where
  excess_value : (x : List Bool) (v : Assignment) → length x ≡ n + n → IsConsistent W.inputs W.tables x v → v s ≡ ltb k (error_of metric (take n x) (drop n x))
  excess_value x v width consistent =
      let inputs : W.inputs ≡ n + n = is.begins.inputs in
      let fits : Fits v W = fits_consistent v W x (record { inputs = refl; tables = is.begins.tables }) consistent in
      let bits : (j : ℕ) → j < length x → v j ≡ get_or x j false = λ j low. consistent.input j (omega (arith, low, width, inputs)) in
      let first : map v (range_with_len 0 n) ≡ take n x = inputs_bits v x 0 n bits (omega (arith, width)) in
      let second : map v (range_with_len n n) ≡ take n (drop n x) = inputs_bits v x n n bits (omega (arith, width)) in
      let rest : take n (drop n x) ≡ drop n x = take_all n (drop n x) (omega (arith, length-drop n x, width)) in
      is.at v fits ∙ rw (first, second, rest) refl

  count : input_count (net_of W (s ∷ [])) ≡ W.inputs
  count = length-map-range_with_len (λ i. 120 ∷ decimal i) 0 W.inputs

  told : IsSound (net_of W (s ∷ [])) → (x : List Bool) → length x ≡ n + n → outputs_of (net_of W (s ∷ [])) x ≡ ltb k (error_of metric (take n x) (drop n x)) ∷ []
  unfolding outputs_of
  told sound x width =
      let law = value_law (input_count (net_of W (s ∷ []))) W.tables x sound.acyclic in
      let consistent = subst (λ m. IsConsistent m W.tables x (value_of m W.tables x)) count law.consistent in
      rw count (ap (λ bit. bit ∷ []) (excess_value x (value_of W.inputs W.tables x) width consistent))

  told_level : IsSound (net_of W (s ∷ [])) → TellsLevel metric n k (net_of W (s ∷ []))
  told_level sound = record { inputs = count ∙ is.begins.inputs; one = refl; tells = told sound }

pub level_told : (metric : Metric) (n k : ℕ) (W : WordNetValue) (s : ℕ) (N : NetValue) → SaysExcess metric n k W s → N ≡ net_of W (s ∷ []) → IsSound N → TellsLevel metric n k N
level_told metric n k W s N is made sound = subst (TellsLevel metric n k) (sym made) (told_level metric n k W s is (subst IsSound made sound))
