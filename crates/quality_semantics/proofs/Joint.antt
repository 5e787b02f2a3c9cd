-- The joint net as three copies, one behind another: no cycle, and every signal keeps its value.
use Rattle.std.proofs.Common.{◌≡◌, ℕ, zero, suc, ◌+◌, ◌<◌, Bool, false, List, [], ◌∷◌, ◌++◌, map, length, take, drop, get_or, All, ltb, ◌⊎◌, inl, inr, ◌≤◌, refl, ap, sym, subst, ◌∙◌, arith, add-zero}
use Rattle.std.proofs.lemmas.Bool.{cases_lt, lt-ltb, le-ltb}
use Rattle.std.proofs.lemmas.List.{length-append, append_assoc, length-map, get_or-map, map-append}
use Rattle.std.proofs.lemmas.List.Elements.{All-head, All-tail, All-weaker, All-map, All-append, All-get_or}
use Rattle.std.proofs.lemmas.List.FromFn.{length-map-range_with_len}
use Rattle.std.proofs.Math.Seq.{take-append_seam, drop-append_seam}
use Rattle.semantics.specs.Net.{TableValue, NetValue, table_at, input_count, table_count, signal_count, signal_names, name_of, IsAcyclic, IsSound, HasSamePorts}
use Rattle.semantics.specs.Value.{Assignment, value_of, outputs_of}
use Rattle.semantics.specs.declared.metric.Metric.{Metric}
use Rattle.semantics.specs.Error.{error_of, net_error}
use Rattle.semantics.specs.Copies.{IsCopiedBehind}
use Rattle.semantics.proofs.Values.{value_law}
use Rattle.semantics.proofs.Embedded.{appended-values}
use Rattle.semantics.proofs.Copied.{copied-acyclic, copied-values}
use Rattle.quality_semantics.specs.WordNets.{signals}
use Rattle.quality_semantics.specs.Quality.{quality}
use Rattle.quality_semantics.specs.Joint.{numbered_name, copied_from, copied, moved, approximate_signal, both_outputs, quality_signal, joint_net, AreComparable}
use Rattle.quality_semantics.proofs.Words.{quality_inputs, quality_output, quality_acyclic, quality_value}

-- ---- copies

length-copied_from : (i letter : ℕ) (f : ℕ → ℕ) (tables : List TableValue) → length (copied_from i letter f tables) ≡ length tables
length-copied_from i letter f [] = refl
length-copied_from i letter f (t ∷ tables) = ap suc (length-copied_from (i + 1) letter f tables)

pub length-copied : (letter : ℕ) (f : ℕ → ℕ) (tables : List TableValue) → length (copied letter f tables) ≡ length tables
length-copied letter f tables = length-copied_from 0 letter f tables

-- the copy of a table
abbrev pub copy_of : ℕ → ℕ → (ℕ → ℕ) → TableValue → TableValue
copy_of i letter f t = record t { name = numbered_name letter i; pins = map f t.pins }

table_at-copied_from : (i letter : ℕ) (f : ℕ → ℕ) (tables : List TableValue) (j : ℕ) → j < length tables → table_at (copied_from i letter f tables) j ≡ copy_of (i + j) letter f (table_at tables j)
table_at-copied_from i letter f [] j within = absurd (omega arith)
table_at-copied_from i letter f (t ∷ tables) zero within = rw add-zero refl
table_at-copied_from i letter f (t ∷ tables) (suc j) within =
    let place : (i + 1) + j ≡ i + suc j = omega arith in
    table_at-copied_from (i + 1) letter f tables j (omega arith) ∙ ap (λ p. copy_of p letter f (table_at tables j)) place

pub table_at-copied : (letter : ℕ) (f : ℕ → ℕ) (tables : List TableValue) (j : ℕ) → j < length tables → table_at (copied letter f tables) j ≡ copy_of j letter f (table_at tables j)
table_at-copied letter f tables j within = let place : 0 + j ≡ j = omega arith in table_at-copied_from 0 letter f tables j within ∙ ap (λ p. copy_of p letter f (table_at tables j)) place

copied_behind : (m : ℕ) (before : List TableValue) (n letter : ℕ) (f : ℕ → ℕ) (tables : List TableValue) → ((s : ℕ) → s < n → f s < m + length before)
    → ((i : ℕ) → i < length tables → f (n + i) ≡ m + (length before + i)) → IsCopiedBehind m before n tables (copied letter f tables) f
copied_behind m before n letter f tables input table = record {
  count = length-copied letter f tables;
  input = input;
  table = table;
  pins = λ i within. ap (λ t. t.pins) (table_at-copied letter f tables i within);
  rows = λ i within. ap (λ t. t.rows) (table_at-copied letter f tables i within);
  plane = λ i within. ap (λ t. t.plane) (table_at-copied letter f tables i within);
}

-- ---- where signals stand

moved_input : (input : ℕ → ℕ) (n first s : ℕ) → s < n → moved input n first s ≡ input s
moved_input input n first s low = rw (lt-ltb s n low) refl

moved_table : (input : ℕ → ℕ) (n first i : ℕ) → moved input n first (n + i) ≡ first + i
moved_table input n first i =
    let past : n ≤ n + i = omega arith in
    rw (le-ltb (n + i) n past) (omega arith)

-- ---- the three lists of copies

abbrev pub exact_copies : NetValue → List TableValue
exact_copies N = copied 101 (λ s. s) N.tables

abbrev pub approximate_copies : NetValue → NetValue → List TableValue
approximate_copies N M = copied 97 (approximate_signal N) M.tables

abbrev pub quality_copies : NetValue → NetValue → Metric → ℕ → List TableValue
quality_copies N M metric k = copied 113 (quality_signal N M) (quality metric (length N.outputs) k).net.tables

abbrev pub both_copies : NetValue → NetValue → List TableValue
both_copies N M = exact_copies N ++ approximate_copies N M

pub joint_tables : (N M : NetValue) (metric : Metric) (k : ℕ) → (joint_net N M metric k).tables ≡ both_copies N M ++ quality_copies N M metric k
unfolding joint_net
joint_tables N M metric k = sym (append_assoc (exact_copies N) (approximate_copies N M) (quality_copies N M metric k))

pub joint_inputs : (N M : NetValue) (metric : Metric) (k : ℕ) → input_count (joint_net N M metric k) ≡ input_count N
unfolding joint_net
joint_inputs N M metric k = length-map-range_with_len (numbered_name 120) 0 (input_count N)

pub joint_outputs : (N M : NetValue) (metric : Metric) (k : ℕ) → (joint_net N M metric k).outputs ≡ quality_signal N M (quality metric (length N.outputs) k).signal ∷ []
unfolding joint_net
joint_outputs N M metric k = refl

pub length-both_copies : (N M : NetValue) → length (both_copies N M) ≡ table_count N + table_count M
length-both_copies N M =
    omega (arith, length-append (exact_copies N) (approximate_copies N M), length-copied 101 (λ s. s) N.tables, length-copied 97 (approximate_signal N) M.tables)

exact_copied : (N : NetValue) → IsCopiedBehind (input_count N) [] (input_count N) N.tables (exact_copies N) (λ s. s)
exact_copied N = copied_behind (input_count N) [] (input_count N) 101 (λ s. s) N.tables (λ s low. omega arith) (λ i within. omega arith)

approximate_copied : (N M : NetValue) → input_count N ≡ input_count M → IsCopiedBehind (input_count N) (exact_copies N) (input_count M) M.tables (approximate_copies N M) (approximate_signal N)
approximate_copied N M same =
    let n : ℕ = input_count N in
    let count : length (exact_copies N) ≡ table_count N = length-copied 101 (λ s. s) N.tables in
    copied_behind n (exact_copies N) (input_count M) 97 (approximate_signal N) M.tables
    (λ s low. let is = moved_input (λ i. i) n (n + table_count N) s (omega (arith, low, same)) in omega (arith, is, low, same))
    (λ i within. rw (← same) (moved_table (λ i. i) n (n + table_count N) i ∙ omega (arith, count)))

no_cycle_alone : (n : ℕ) → IsAcyclic n []
no_cycle_alone n i within = absurd (omega arith)

exact_acyclic : (N : NetValue) → IsAcyclic (input_count N) N.tables → IsAcyclic (input_count N) (exact_copies N)
exact_acyclic N acyclic = copied-acyclic (input_count N) [] (input_count N) N.tables (exact_copies N) (λ s. s) (no_cycle_alone (input_count N)) acyclic (exact_copied N)

both_acyclic : (N M : NetValue) → AreComparable N M → IsAcyclic (input_count N) (both_copies N M)
both_acyclic N M h =
    copied-acyclic (input_count N) (exact_copies N) (input_count M) M.tables (approximate_copies N M) (approximate_signal N)
    (exact_acyclic N h.exact_sound.acyclic) h.approximate_sound.acyclic (approximate_copied N M h.inputs)

pub whole_length : (N M : NetValue) (metric : Metric) (k : ℕ) → signal_count (joint_net N M metric k) ≡ input_count N + (length (both_copies N M) + length (quality_copies N M metric k))
whole_length N M metric k =
    rw (joint_tables N M metric k) (omega (arith, joint_inputs N M metric k, length-append (both_copies N M) (quality_copies N M metric k)))

-- ---- the values of the two nets

exact_alone : (N : NetValue) → IsAcyclic (input_count N) N.tables → (x : List Bool) (s : ℕ) → s < signal_count N → value_of (input_count N) (exact_copies N) x s ≡ value_of (input_count N) N.tables x s
exact_alone N acyclic x s within =
    copied-values (input_count N) [] (input_count N) N.tables (exact_copies N) (λ p. p) (no_cycle_alone (input_count N)) acyclic (exact_copied N) x x
    (λ i low. sym ((value_law (input_count N) [] x (no_cycle_alone (input_count N))).consistent.input i low)) s within

exact_values : (N : NetValue) (more : List TableValue) → IsAcyclic (input_count N) N.tables → IsAcyclic (input_count N) (exact_copies N ++ more) → (x : List Bool) (s : ℕ) → s < signal_count N
    → value_of (input_count N) (exact_copies N ++ more) x s ≡ value_of (input_count N) N.tables x s
exact_values N more acyclic whole x s within =
    appended-values (input_count N) (exact_copies N) more x (exact_acyclic N acyclic) whole s (omega (arith, within, length-copied 101 (λ p. p) N.tables))
    ∙ exact_alone N acyclic x s within

approximate_alone : (N M : NetValue) → AreComparable N M → (x : List Bool) (s : ℕ) → s < signal_count M
    → value_of (input_count N) (both_copies N M) x (approximate_signal N s) ≡ value_of (input_count M) M.tables x s
approximate_alone N M h x s within =
    let n : ℕ = input_count N in
    let before : IsAcyclic n (exact_copies N) = exact_acyclic N h.exact_sound.acyclic in
    copied-values n (exact_copies N) (input_count M) M.tables (approximate_copies N M) (approximate_signal N) before h.approximate_sound.acyclic (approximate_copied N M h.inputs) x x
    (λ i low.
    let inside : i < n = omega (arith, low, h.inputs) in
    let there = moved_input (λ p. p) n (n + table_count N) i inside in
    sym (ap (value_of n (exact_copies N) x) there ∙ (value_law n (exact_copies N) x before).consistent.input i inside)) s within

pub approximate_below : (N M : NetValue) → input_count N ≡ input_count M → (s : ℕ) → s < signal_count M → approximate_signal N s < input_count N + length (both_copies N M)
approximate_below N M same s within = at_side (cases_lt s (input_count N))
  where
    at_side : (s < input_count N) ⊎ (input_count N ≤ s) → approximate_signal N s < input_count N + length (both_copies N M)
    at_side (inl low) = rw (lt-ltb s (input_count N) low) (omega (arith, low))
    at_side (inr high) = rw (le-ltb s (input_count N) high) (omega (arith, high, within, same, length-both_copies N M))

-- ---- the quality network, which reads the outputs of both

map-same : (f g : ℕ → Bool) (bus : List ℕ) (n : ℕ) → ((s : ℕ) → s < n → f s ≡ g s) → All (λ s. s < n) bus → map f bus ≡ map g bus
map-same f g [] n same within = refl
map-same f g (s ∷ bus) n same within =
    let here = same s (All-head (λ p. p < n) s bus within) in
    let rest = map-same f g bus n same (All-tail (λ p. p < n) s bus within) in
    cc

map-after : (f : ℕ → Bool) (g : ℕ → ℕ) (bus : List ℕ) → map f (map g bus) ≡ map (λ s. f (g s)) bus
map-after f g [] = refl
map-after f g (s ∷ bus) = ap (λ bits. f (g s) ∷ bits) (map-after f g bus)

outputs_below : (N M : NetValue) → AreComparable N M → All (λ s. s < input_count N + length (both_copies N M)) (both_outputs N M)
outputs_below N M h =
    let below : ℕ → Type 0 = λ s. s < input_count N + length (both_copies N M) in
    All-append below N.outputs (map (approximate_signal N) M.outputs)
    (All-weaker (λ s. s < signal_count N) below (λ s inside. omega (arith, inside, length-both_copies N M)) N.outputs h.exact_sound.outputs_are_signals)
    (All-map below (approximate_signal N) M.outputs (All-weaker (λ s. s < signal_count M) (λ s. below (approximate_signal N s)) (approximate_below N M h.inputs) M.outputs
    h.approximate_sound.outputs_are_signals))

length-both_outputs : (N M : NetValue) → length N.outputs ≡ length M.outputs → length (both_outputs N M) ≡ length N.outputs + length N.outputs
length-both_outputs N M same = omega (arith, same, length-append N.outputs (map (approximate_signal N) M.outputs), length-map M.outputs (approximate_signal N))

-- the outputs' values, as they stand before the quality network
outputs_values : (N M : NetValue) → AreComparable N M → (x : List Bool) → map (value_of (input_count N) (both_copies N M) x) (both_outputs N M) ≡ outputs_of N x ++ outputs_of M x
unfolding outputs_of
outputs_values N M h x =
    let v : Assignment = value_of (input_count N) (both_copies N M) x in
    let first = map-same v (value_of (input_count N) N.tables x) N.outputs (signal_count N)
    (exact_values N (approximate_copies N M) h.exact_sound.acyclic (both_acyclic N M h) x) h.exact_sound.outputs_are_signals in
    let second = map-same (λ s. v (approximate_signal N s)) (value_of (input_count M) M.tables x) M.outputs (signal_count M)
    (approximate_alone N M h x) h.approximate_sound.outputs_are_signals in
    map-append v N.outputs (map (approximate_signal N) M.outputs) ∙ rw (map-after v (approximate_signal N) M.outputs, first, second) refl

-- where a signal of the quality network stands
pub quality_below : (N M : NetValue) (metric : Metric) (k : ℕ) → AreComparable N M → (s : ℕ) → s < signals (quality metric (length N.outputs) k).net
    → quality_signal N M s < signal_count (joint_net N M metric k)
quality_below N M metric k h s within = at_side (cases_lt s (w + w))
  where
    w : ℕ
    w = length N.outputs

    at_side : (s < w + w) ⊎ (w + w ≤ s) → quality_signal N M s < signal_count (joint_net N M metric k)
    at_side (inl low) =
        let inside = All-get_or (λ p. p < input_count N + length (both_copies N M)) (both_outputs N M) s 0 (omega (arith, low, length-both_outputs N M h.outputs)) (outputs_below N M h) in
        rw (lt-ltb s (w + w) low) (omega (arith, inside, whole_length N M metric k))
    at_side (inr high) =
        rw (le-ltb s (w + w) high)
        (omega (arith, high, within, quality_inputs metric w k, whole_length N M metric k, length-both_copies N M, length-copied 113 (quality_signal N M) (quality metric w k).net.tables))

quality_copied : (N M : NetValue) (metric : Metric) (k : ℕ) → AreComparable N M
    → IsCopiedBehind (input_count N) (both_copies N M) (length N.outputs + length N.outputs) (quality metric (length N.outputs) k).net.tables (quality_copies N M metric k) (quality_signal N M)
quality_copied N M metric k h =
    let both : List ℕ = both_outputs N M in
    let w : ℕ = length N.outputs in
    let first : ℕ = input_count N + table_count N + table_count M in
    copied_behind (input_count N) (both_copies N M) (w + w) 113 (quality_signal N M) (quality metric w k).net.tables
    (λ s low. rw (moved_input (λ i. get_or both i 0) (w + w) first s low)
    (All-get_or (λ p. p < input_count N + length (both_copies N M)) both s 0 (omega (arith, low, length-both_outputs N M h.outputs)) (outputs_below N M h)))
    (λ i within. moved_table (λ j. get_or both j 0) (w + w) first i ∙ omega (arith, length-both_copies N M))

pub whole_acyclic : (N M : NetValue) (metric : Metric) (k : ℕ) → AreComparable N M → IsAcyclic (input_count N) (both_copies N M ++ quality_copies N M metric k)
whole_acyclic N M metric k h =
    let w : ℕ = length N.outputs in
    copied-acyclic (input_count N) (both_copies N M) (w + w) (quality metric w k).net.tables (quality_copies N M metric k) (quality_signal N M)
    (both_acyclic N M h) (quality_acyclic metric w k) (quality_copied N M metric k h)

pub joint_acyclic : (N M : NetValue) (metric : Metric) (k : ℕ) → AreComparable N M → IsAcyclic (input_count N) (joint_net N M metric k).tables
joint_acyclic N M metric k h = rw (joint_tables N M metric k) (whole_acyclic N M metric k h)

-- ---- the values

pub joint_exact : (N M : NetValue) (metric : Metric) (k : ℕ) → AreComparable N M → (x : List Bool) (s : ℕ) → s < signal_count N
    → value_of (input_count N) (joint_net N M metric k).tables x s ≡ value_of (input_count N) N.tables x s
joint_exact N M metric k h x s within =
    rw (joint_tables N M metric k)
    (appended-values (input_count N) (both_copies N M) (quality_copies N M metric k) x (both_acyclic N M h) (whole_acyclic N M metric k h) s (omega (arith, within, length-both_copies N M))
    ∙ exact_values N (approximate_copies N M) h.exact_sound.acyclic (both_acyclic N M h) x s within)

pub joint_approximate : (N M : NetValue) (metric : Metric) (k : ℕ) → AreComparable N M → (x : List Bool) (s : ℕ) → s < signal_count M
    → value_of (input_count N) (joint_net N M metric k).tables x (approximate_signal N s) ≡ value_of (input_count M) M.tables x s
joint_approximate N M metric k h x s within =
    rw (joint_tables N M metric k)
    (appended-values (input_count N) (both_copies N M) (quality_copies N M metric k) x (both_acyclic N M h) (whole_acyclic N M metric k h) (approximate_signal N s)
    (approximate_below N M h.inputs s within)
    ∙ approximate_alone N M h x s within)

pub joint_quality : (N M : NetValue) (metric : Metric) (k : ℕ) → AreComparable N M → (x : List Bool) (s : ℕ) → let Q = quality metric (length N.outputs) k in
    s < signals Q.net
    → value_of (input_count N) (joint_net N M metric k).tables x (quality_signal N M s)
    ≡ value_of (length N.outputs + length N.outputs) Q.net.tables (outputs_of N x ++ outputs_of M x) s
joint_quality N M metric k h x s within =
    let both : List ℕ = both_outputs N M in
    let w : ℕ = length N.outputs in
    let first : ℕ = input_count N + table_count N + table_count M in
    let v : Assignment = value_of (input_count N) (both_copies N M) x in
    rw (joint_tables N M metric k)
    (copied-values (input_count N) (both_copies N M) (w + w) (quality metric w k).net.tables (quality_copies N M metric k) (quality_signal N M)
    (both_acyclic N M h) (quality_acyclic metric w k) (quality_copied N M metric k h) x (outputs_of N x ++ outputs_of M x)
    (λ i low.
    rw (moved_input (λ j. get_or both j 0) (w + w) first i low, ← outputs_values N M h x)
    (get_or-map v both i 0 false (omega (arith, low, length-both_outputs N M h.outputs)))) s
    (omega (arith, within, quality_inputs metric w k)))

length-outputs_of : (N : NetValue) (x : List Bool) → length (outputs_of N x) ≡ length N.outputs
unfolding outputs_of
length-outputs_of N x = length-map N.outputs (value_of (input_count N) N.tables x)

pub outputs_are : (N M : NetValue) (metric : Metric) (k : ℕ) (x : List Bool)
    → outputs_of (joint_net N M metric k) x ≡ value_of (input_count N) (joint_net N M metric k).tables x (quality_signal N M (quality metric (length N.outputs) k).signal) ∷ []
unfolding outputs_of
outputs_are N M metric k x =
    let J : NetValue = joint_net N M metric k in
    let one = joint_outputs N M metric k in
    rw (joint_inputs N M metric k, one) refl

error_unfolds : (metric : Metric) (N M : NetValue) (x : List Bool) → net_error metric N M x ≡ error_of metric (outputs_of N x) (outputs_of M x)
unfolding net_error
error_unfolds metric N M x = refl

pub joint_output : (N M : NetValue) (metric : Metric) (k : ℕ) → AreComparable N M → (x : List Bool) → outputs_of (joint_net N M metric k) x ≡ ltb k (net_error metric N M x) ∷ []
joint_output N M metric k h x =
    let w : ℕ = length N.outputs in
    let e : List Bool = outputs_of N x in
    let a : List Bool = outputs_of M x in
    let exact : length e ≡ w = length-outputs_of N x in
    let other : length a ≡ w = length-outputs_of M x ∙ sym h.outputs in
    let first : take w (e ++ a) ≡ e = subst (λ n. take n (e ++ a) ≡ e) exact (take-append_seam e a) in
    let second : drop w (e ++ a) ≡ a = subst (λ n. drop n (e ++ a) ≡ a) exact (drop-append_seam e a) in
    let there = joint_quality N M metric k h x (quality metric w k).signal (quality_output metric w k) in
    let value = quality_value metric w k (e ++ a) (omega (arith, exact, other, length-append e a)) in
    outputs_are N M metric k x ∙ ap (λ bit. bit ∷ []) (there ∙ value ∙ rw (first, second) (ap (λ n. ltb k n) (sym (error_unfolds metric N M x))))

pub comparable : (N M : NetValue) → IsSound N → IsSound M → HasSamePorts N M → AreComparable N M
comparable N M exact other ports = record {
  exact_sound = exact;
  approximate_sound = other;
  inputs = ap length ports.inputs;
  outputs = sym (length-map N.outputs (name_of (signal_names N))) ∙ ap length ports.outputs ∙ length-map M.outputs (name_of (signal_names M));
}
