-- The joint net is sound: its names differ by their letters and numbers, and its tables keep their shapes.
use Rattle.std.proofs.Common.{◌≡◌, ◌≢◌, ℕ, zero, suc, ◌+◌, ◌^◌, ◌<◌, ◌≤◌, true, List, [], ◌∷◌, ◌++◌, map, length, get_or, All, AllPairs, decimal, codes, refl, ap, sym, subst, ◌∙◌, arith}
use Rattle.std.specs.List.{range_with_len}
use Rattle.std.proofs.lemmas.Fmt.{decimal_injective}
use Rattle.std.proofs.lemmas.List.{length-map, get_or_default, map-append}
use Rattle.std.proofs.lemmas.List.Elements.{All-head, All-tail, All-append, All-map, All-weaker, All-from_recursion}
use Rattle.std.proofs.lemmas.List.FromFn.{get_or-map-range_with_len, length-map-range_with_len}
use Rattle.std.proofs.lemmas.List.Kept.{AllPairs-cons}
use Rattle.semantics.specs.Texts.{Bytes}
use Rattle.semantics.specs.Net.{TableValue, NetValue, no_table, table_at, input_count, table_count, signal_count, signal_names, IsNameByte, IsName, IsTable, IsAcyclic, IsSound}
use Rattle.semantics.specs.declared.metric.Metric.{Metric}
use Rattle.quality_semantics.specs.WordNets.{WordNetValue, signals, IsWordNet}
use Rattle.quality_semantics.specs.Quality.{quality}
use Rattle.quality_semantics.specs.Joint.{numbered_name, copied_from, copied, approximate_signal, quality_signal, joint_net, AreComparable}
use Rattle.quality_semantics.proofs.Words.{quality_formed, quality_output}
use Rattle.semantics.proofs.NumberedNames.{IsName-numbered}
use Rattle.quality_semantics.proofs.Joint.{length-copied, copy_of, table_at-copied, exact_copies, approximate_copies, quality_copies, both_copies, joint_tables, joint_inputs, joint_outputs}
use Rattle.quality_semantics.proofs.Joint.{whole_length, length-both_copies, approximate_below, quality_below, joint_acyclic}

-- ---- names

abbrev names : ℕ → ℕ → List Bytes
names letter count = map (numbered_name letter) (range_with_len 0 count)

names-copied_from : (i letter : ℕ) (f : ℕ → ℕ) (tables : List TableValue) → map (λ t. t.name) (copied_from i letter f tables) ≡ map (numbered_name letter) (range_with_len i (length tables))
names-copied_from i letter f [] = refl
names-copied_from i letter f (t ∷ tables) = ap (λ rest. numbered_name letter i ∷ rest) (names-copied_from (i + 1) letter f tables)

names-copied : (letter : ℕ) (f : ℕ → ℕ) (tables : List TableValue) → map (λ t. t.name) (copied letter f tables) ≡ names letter (length tables)
names-copied letter f tables = names-copied_from 0 letter f tables

-- the first byte of a name
abbrev head : Bytes → ℕ
head name = get_or name 0 0

names_at : (letter count i : ℕ) (d : Bytes) → i < count → get_or (names letter count) i d ≡ numbered_name letter i
names_at letter count i d within = get_or-map-range_with_len (numbered_name letter) 0 count i i d within (omega arith)

length-names : (letter count : ℕ) → length (names letter count) ≡ count
length-names letter count = length-map-range_with_len (numbered_name letter) 0 count

each_name : (P : Bytes → Type 0) (letter count : ℕ) → ((i : ℕ) → i < count → P (numbered_name letter i)) → All P (names letter count)
each_name P letter count h i d within =
    let inside : i < count = omega (arith, within, length-names letter count) in
    subst P (sym (names_at letter count i d inside)) (h i inside)

names_differ : (letter count : ℕ) → count ≤ 2 ^ 31 → AllPairs ◌≢◌ (names letter count)
names_differ letter count few i j d below within =
    let inside : j < count = omega (arith, within, length-names letter count) in
    rw (names_at letter count i d (omega (arith, below, inside)), names_at letter count j d inside)
    (λ e. let same : decimal i ≡ decimal j = cc in let equal = decimal_injective i j (omega (arith, below, inside, few)) (omega (arith, inside, few)) same in omega (arith, equal, below))

pairs_tail : (x : Bytes) (xs : List Bytes) → AllPairs ◌≢◌ (x ∷ xs) → AllPairs ◌≢◌ xs
pairs_tail x xs h i j d below within = h (suc i) (suc j) d (omega (arith, below)) (omega (arith, within))

pairs_head : (x : Bytes) (xs : List Bytes) → AllPairs ◌≢◌ (x ∷ xs) → All (λ y. x ≢ y) xs
pairs_head x xs h j d within = h zero (suc j) d (omega arith) (omega (arith, within))

-- words that differ, before others that differ and begin otherwise
differ-append : (letter : ℕ) (xs ys : List Bytes) → All (λ x. head x ≡ letter) xs → All (λ y. head y ≢ letter) ys → AllPairs ◌≢◌ xs → AllPairs ◌≢◌ ys → AllPairs ◌≢◌ (xs ++ ys)
differ-append letter [] ys first other hx hy = hy
differ-append letter (x ∷ xs) ys first other hx hy =
    let own = All-head (λ n. head n ≡ letter) x xs first in
    let apart : All (λ y. x ≢ y) ys = All-weaker (λ y. head y ≢ letter) (λ y. x ≢ y) (λ y h e. h (sym (ap head e) ∙ own)) ys other in
    AllPairs-cons ◌≢◌ x (xs ++ ys) (All-append (λ y. x ≢ y) xs ys (pairs_head x xs hx) apart)
    (differ-append letter xs ys (All-tail (λ n. head n ≡ letter) x xs first) other (pairs_tail x xs hx) hy)

names_before : (letter count : ℕ) (ys : List Bytes) → count ≤ 2 ^ 31 → All (λ y. head y ≢ letter) ys → AllPairs ◌≢◌ ys → AllPairs ◌≢◌ (names letter count ++ ys)
names_before letter count ys few other differ =
    differ-append letter (names letter count) ys (each_name (λ n. head n ≡ letter) letter count (λ i within. refl)) other (names_differ letter count few) differ

others_before : (letter other count : ℕ) (ys : List Bytes) → other ≢ letter → All (λ y. head y ≢ letter) ys → All (λ y. head y ≢ letter) (names other count ++ ys)
others_before letter other count ys ne h = All-append (λ y. head y ≢ letter) (names other count) ys (each_name (λ n. head n ≢ letter) other count (λ i within. ne)) h

-- the inputs' names and those of the three lists of copies
four_differ : (x e a q : ℕ) → x ≤ 2 ^ 31 → e ≤ 2 ^ 31 → a ≤ 2 ^ 31 → q ≤ 2 ^ 31 → AllPairs ◌≢◌ (names 120 x ++ (names 101 e ++ (names 97 a ++ names 113 q)))
four_differ x e a q hx he ha hq =
    let last : ((letter : ℕ) → 113 ≢ letter → All (λ y. head y ≢ letter) (names 113 q)) = λ letter ne. each_name (λ n. head n ≢ letter) 113 q (λ i within. ne) in
    names_before 120 x (names 101 e ++ (names 97 a ++ names 113 q)) hx
    (others_before 120 101 e (names 97 a ++ names 113 q) (λ h. omega (arith, h)) (others_before 120 97 a (names 113 q) (λ h. omega (arith, h)) (last 120 (λ h. omega (arith, h)))))
    (names_before 101 e (names 97 a ++ names 113 q) he (others_before 101 97 a (names 113 q) (λ h. omega (arith, h)) (last 101 (λ h. omega (arith, h))))
    (names_before 97 a (names 113 q) ha (last 97 (λ h. omega (arith, h))) (names_differ 113 q hq)))

joint_names : (N M : NetValue) (metric : Metric) (k : ℕ) → signal_names (joint_net N M metric k)
    ≡ names 120 (input_count N) ++ (names 101 (table_count N) ++ (names 97 (table_count M) ++ names 113 (length (quality metric (length N.outputs) k).net.tables)))
unfolding joint_net
joint_names N M metric k =
    let name : TableValue → Bytes = λ t. t.name in
    rw (
      map-append name (exact_copies N) (approximate_copies N M ++ quality_copies N M metric k),
      map-append name (approximate_copies N M) (quality_copies N M metric k),
      names-copied 101 (λ s. s) N.tables,
      names-copied 97 (approximate_signal N) M.tables,
      names-copied 113 (quality_signal N M) (quality metric (length N.outputs) k).net.tables,
    ) refl

IsName-joint : IsName (codes "joint")
IsName-joint = record {
  not_empty = omega arith;
  short = omega arith;
  printable = All-from_recursion IsNameByte (codes "joint") (
    (omega arith, omega arith, omega arith),
    (
      (omega arith, omega arith, omega arith),
      ((omega arith, omega arith, omega arith), ((omega arith, omega arith, omega arith), ((omega arith, omega arith, omega arith), tt))),
    ),
  );
  ending = λ e. omega (arith, e);
}

-- ---- tables

-- a table's rows are formed, whatever its name
record IsShaped (t : TableValue) : Type 0 where
  pub widths : All (λ marks. length marks ≡ length t.pins) t.rows
  pub plane : t.rows ≡ [] → t.plane ≡ true

copy_formed : (i letter : ℕ) (f : ℕ → ℕ) (t : TableValue) → IsNameByte letter → i < 2 ^ 32 → IsShaped t → IsTable (copy_of i letter f t)
copy_formed i letter f t byte small h = record {
  named = IsName-numbered letter i byte (omega (arith, small));
  widths = rw (length-map t.pins f) h.widths;
  plane = h.plane;
}

each_copy : (P : TableValue → Type 0) (letter : ℕ) (f : ℕ → ℕ) (tables : List TableValue) → ((i : ℕ) → i < length tables → P (copy_of i letter f (table_at tables i))) → All P (copied letter f tables)
each_copy P letter f tables h i d within =
    let inside : i < length tables = omega (arith, within, length-copied letter f tables) in
    subst P (sym (get_or_default (copied letter f tables) i d no_table within ∙ table_at-copied letter f tables i inside)) (h i inside)

copies_formed : (letter : ℕ) (f : ℕ → ℕ) (tables : List TableValue) → IsNameByte letter → length tables ≤ 2 ^ 31 → ((i : ℕ) → i < length tables → IsShaped (table_at tables i))
    → All IsTable (copied letter f tables)
copies_formed letter f tables byte few h = each_copy IsTable letter f tables (λ i within. copy_formed i letter f (table_at tables i) byte (omega (arith, within, few)) (h i within))

abbrev ReadsBelow : ℕ → TableValue → Type 0
ReadsBelow n t = All (λ s. s < n) t.pins

copies_read : (letter : ℕ) (f : ℕ → ℕ) (tables : List TableValue) (n total : ℕ) → ((s : ℕ) → s < n → f s < total) → ((i : ℕ) → i < length tables → ReadsBelow n (table_at tables i))
    → All (ReadsBelow total) (copied letter f tables)
copies_read letter f tables n total below h =
    each_copy (ReadsBelow total) letter f tables
    (λ i within. All-map (λ s. s < total) f (table_at tables i).pins (All-weaker (λ s. s < n) (λ s. f s < total) below (table_at tables i).pins (h i within)))

sound_shaped : (N : NetValue) → IsSound N → (i : ℕ) → i < table_count N → IsShaped (table_at N.tables i)
sound_shaped N h i within = let t = h.tables_formed i no_table within in record { widths = t.widths; plane = t.plane }

word_shaped : (W : WordNetValue) → IsWordNet W → (i : ℕ) → i < length W.tables → IsShaped (table_at W.tables i)
word_shaped W h i within = let t = h.formed i within in record { widths = t.widths; plane = λ _. t.plane }

word_reads : (W : WordNetValue) → IsWordNet W → (i : ℕ) → i < length W.tables → ReadsBelow (signals W) (table_at W.tables i)
word_reads W h i within = All-weaker (λ s. s < W.inputs + i) (λ s. s < signals W) (λ s below. omega (arith, below, within)) (table_at W.tables i).pins (h.in_order i within)

joint_formed : (N M : NetValue) (metric : Metric) (k : ℕ) → AreComparable N M → signal_count (joint_net N M metric k) < 2 ^ 31 → All IsTable (joint_net N M metric k).tables
joint_formed N M metric k h few =
    let Q = (quality metric (length N.outputs) k).net in
    let total = whole_length N M metric k in
    let both = length-both_copies N M in
    let last = length-copied 113 (quality_signal N M) Q.tables in
    rw (joint_tables N M metric k)
    (All-append IsTable (both_copies N M) (quality_copies N M metric k)
    (All-append IsTable (exact_copies N) (approximate_copies N M)
    (copies_formed 101 (λ s. s) N.tables (omega arith, omega arith, λ e. omega (arith, e)) (omega (arith, few, total, both)) (sound_shaped N h.exact_sound))
    (copies_formed 97 (approximate_signal N) M.tables (omega arith, omega arith, λ e. omega (arith, e)) (omega (arith, few, total, both)) (sound_shaped M h.approximate_sound)))
    (copies_formed 113 (quality_signal N M) Q.tables (omega arith, omega arith, λ e. omega (arith, e)) (omega (arith, few, total, last)) (word_shaped Q (quality_formed metric (length N.outputs) k))))

joint_reads : (N M : NetValue) (metric : Metric) (k : ℕ) → AreComparable N M → All (ReadsBelow (signal_count (joint_net N M metric k))) (joint_net N M metric k).tables
joint_reads N M metric k h =
    let Q = (quality metric (length N.outputs) k).net in
    let total = signal_count (joint_net N M metric k) in
    let is = whole_length N M metric k in
    let both = length-both_copies N M in
    subst (All (ReadsBelow total)) (sym (joint_tables N M metric k))
    (All-append (ReadsBelow total) (both_copies N M) (quality_copies N M metric k)
    (All-append (ReadsBelow total) (exact_copies N) (approximate_copies N M)
    (copies_read 101 (λ s. s) N.tables (signal_count N) total (λ s below. omega (arith, below, is, both)) (λ i within. h.exact_sound.pins_are_signals i no_table within))
    (copies_read 97 (approximate_signal N) M.tables (signal_count M) total (λ s below. let there = approximate_below N M h.inputs s below in omega (arith, there, is))
    (λ i within. h.approximate_sound.pins_are_signals i no_table within)))
    (copies_read 113 (quality_signal N M) Q.tables (signals Q) total (quality_below N M metric k h) (word_reads Q (quality_formed metric (length N.outputs) k))))

joint_model : (N M : NetValue) (metric : Metric) (k : ℕ) → IsName (joint_net N M metric k).model
unfolding joint_net
joint_model N M metric k = IsName-joint

joint_input_names : (N M : NetValue) (metric : Metric) (k : ℕ) → (joint_net N M metric k).inputs ≡ names 120 (input_count N)
unfolding joint_net
joint_input_names N M metric k = refl

pub joint_sound : (N M : NetValue) (metric : Metric) (k : ℕ) → AreComparable N M → signal_count (joint_net N M metric k) < 2 ^ 31 → IsSound (joint_net N M metric k)
joint_sound N M metric k h few =
    let J : NetValue = joint_net N M metric k in
    let Q = quality metric (length N.outputs) k in
    let total = whole_length N M metric k in
    let both = length-both_copies N M in
    let last = length-copied 113 (quality_signal N M) Q.net.tables in
    record {
      model_named = joint_model N M metric k;
      inputs_named = rw (joint_input_names N M metric k)
          (each_name IsName 120 (input_count N) (λ i within. IsName-numbered 120 i (omega arith, omega arith, λ e. omega (arith, e)) (omega (arith, within, few, total))));
      tables_formed = joint_formed N M metric k h few;
      names_differ = rw (joint_names N M metric k)
          (four_differ (input_count N) (table_count N) (table_count M) (length Q.net.tables) (omega (arith, few, total)) (omega (arith, few, total, both)) (omega (arith, few, total, both))
          (omega (arith, few, total, last)));
      has_output = rw (joint_outputs N M metric k) (omega arith);
      outputs_are_signals = subst (All (λ s. s < signal_count J)) (sym (joint_outputs N M metric k))
          (All-from_recursion (λ s. s < signal_count J) (quality_signal N M Q.signal ∷ []) (quality_below N M metric k h Q.signal (quality_output metric (length N.outputs) k), tt));
      pins_are_signals = joint_reads N M metric k h;
      acyclic = subst (λ n. IsAcyclic n J.tables) (sym (joint_inputs N M metric k)) (joint_acyclic N M metric k h);
    }
