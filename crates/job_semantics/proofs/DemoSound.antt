-- The demonstration's net is sound and small: its names differ by letter or number, and each table reads what stands before it.
use Rattle.std.proofs.Common.{◌≡◌, ◌≢◌, ℕ, zero, suc, ◌+◌, ◌-◌, ◌*◌, ◌^◌, ◌<◌, ◌≤◌, ◌==◌, List, [], ◌∷◌, ◌++◌, map, length, drop, get_or, All, AllPairs, decimal, codes, cond, inl, inr, refl, ap, sym}
use Rattle.std.proofs.Common.{subst, ◌∙◌, arith}
use Rattle.std.specs.List.{range_with_len}
use Rattle.std.proofs.lemmas.Bool.{cases_lt}
use Rattle.std.proofs.lemmas.Fmt.{decimal_injective}
use Rattle.std.proofs.lemmas.List.{length-append, length-map, get_or_append_left, get_or-append_right, get_or-map, get_or_default}
use Rattle.std.proofs.lemmas.List.Sums.{sum_by-le}
use Rattle.std.proofs.lemmas.List.Elements.{All-weaker, All-append, All-map, All-from_recursion}
use Rattle.std.proofs.lemmas.List.FromFn.{length-range_with_len, get_or-range_with_len, get_or-map-range_with_len, length-map-range_with_len}
use Rattle.semantics.specs.Texts.{Bytes}
use Rattle.semantics.specs.Net.{TableValue, NetValue, no_table, table_at, input_count, table_count, signal_count, signal_names, IsNameByte, IsName, IsTable, IsInOrder, IsAcyclic, IsSound, IsSmall}
use Rattle.semantics.proofs.Order.{IsAcyclic-in_order}
use Rattle.semantics.proofs.NumberedNames.{IsName-numbered}
use Rattle.job_semantics.specs.Demo.{demo_name, sum_signal, carry_signal, sum_form, carry_form, demo_net}
use Rattle.job_semantics.proofs.DemoTables.{sum_table, carry_table, demo_inputs, demo_outputs, demo_tables, each_table}

-- ---- names

-- the signal whose name has this letter and number
signal_named : ℕ → ℕ → ℕ → ℕ
signal_named w letter i = cond (letter == 97) i (cond (letter == 98) (w + i) (cond (letter == 115) (w + w + 2 * i) (w + w + 2 * i - 1)))

record IsNamed (w s : ℕ) (name : Bytes) : Type 0 where
  letter : ℕ
  number : ℕ
  is : name ≡ letter ∷ decimal number
  byte : IsNameByte letter
  small : number < 2 ^ 32
  signal : signal_named w letter number ≡ s

named-is_name : (w s : ℕ) (name : Bytes) → IsNamed w s name → IsName name
named-is_name w s name h = subst IsName (sym h.is) (IsName-numbered h.letter h.number h.byte (omega (arith, h.small)))

names_apart : (w s t : ℕ) (a b : Bytes) → s < t → IsNamed w s a → IsNamed w t b → a ≢ b
names_apart w s t a b below h g e =
    let both : h.letter ∷ decimal h.number ≡ g.letter ∷ decimal g.number = sym h.is ∙ e ∙ g.is in
    let letters : h.letter ≡ g.letter = ap (λ (name : Bytes). get_or name 0 0) both in
    let numbers : h.number ≡ g.number = decimal_injective h.number g.number (omega (arith, h.small)) (omega (arith, g.small)) (ap (drop 1) both) in
    let same : s ≡ t = sym h.signal ∙ (λ i. signal_named w (letters i) (numbers i)) ∙ g.signal in
    omega (arith, below, same)

named_a : (w i : ℕ) → i < 2 ^ 32 → IsNamed w i (demo_name (codes "a") i)
unfolding signal_named
named_a w i small = record { letter = 97; number = i; is = refl; byte = (omega arith, omega arith, λ e. omega (arith, e)); small = small; signal = refl }

named_b : (w i : ℕ) → i < 2 ^ 32 → IsNamed w (w + i) (demo_name (codes "b") i)
unfolding signal_named
named_b w i small = record { letter = 98; number = i; is = refl; byte = (omega arith, omega arith, λ e. omega (arith, e)); small = small; signal = refl }

named_s : (w i : ℕ) → i < 2 ^ 32 → IsNamed w (w + w + 2 * i) (demo_name (codes "s") i)
unfolding signal_named
named_s w i small = record { letter = 115; number = i; is = refl; byte = (omega arith, omega arith, λ e. omega (arith, e)); small = small; signal = refl }

named_c : (w i : ℕ) → i + 1 < 2 ^ 32 → IsNamed w (w + w + (2 * i + 1)) (demo_name (codes "c") (i + 1))
unfolding signal_named
named_c w i small = record { letter = 99; number = i + 1; is = refl; byte = (omega arith, omega arith, λ e. omega (arith, e)); small = small; signal = omega arith }

abbrev inputs_of : ℕ → Bytes → List Bytes
inputs_of w letter = map (demo_name letter) (range_with_len 0 w)

input_at : (w i : ℕ) (letter d : Bytes) → i < w → get_or (inputs_of w letter) i d ≡ demo_name letter i
input_at w i letter d within = get_or-map-range_with_len (demo_name letter) 0 w i i d within (omega arith)

inputs_are : (w : ℕ) → (demo_net w).inputs ≡ inputs_of w (codes "a") ++ inputs_of w (codes "b")
unfolding demo_net
inputs_are w = refl

input_named : (w s : ℕ) (d : Bytes) → w ≤ 32 → s < w + w → IsNamed w s (get_or (demo_net w).inputs s d)
input_named w s d few within =
    let width = length-map-range_with_len (demo_name (codes "a")) 0 w in
    subst (λ names. IsNamed w s (get_or names s d)) (sym (inputs_are w))
    (elim (cases_lt s w) [
      | inl low ↦
          let there : get_or (inputs_of w (codes "a") ++ inputs_of w (codes "b")) s d ≡ demo_name (codes "a") s =
          get_or_append_left (inputs_of w (codes "a")) (inputs_of w (codes "b")) d s (omega (arith, width, low)) ∙ input_at w s (codes "a") d low in
          subst (IsNamed w s) (sym there) (named_a w s (omega (arith, few, low)))
      | inr high ↦
          let there : get_or (inputs_of w (codes "a") ++ inputs_of w (codes "b")) s d ≡ demo_name (codes "b") (s - w) =
          get_or-append_right (inputs_of w (codes "a")) (inputs_of w (codes "b")) w s d width high ∙ input_at w (s - w) (codes "b") d (omega (arith, within)) in
          let place : w + (s - w) ≡ s = omega (arith, high) in
          subst (λ p. IsNamed w p (get_or (inputs_of w (codes "a") ++ inputs_of w (codes "b")) s d)) place
          (subst (IsNamed w (w + (s - w))) (sym there) (named_b w (s - w) (omega (arith, few, within))))
    ])

table_named : (w t : ℕ) → w ≤ 32 → t < table_count (demo_net w) → IsNamed w (w + w + t) (table_at (demo_net w).tables t).name
table_named w t few within =
    each_table w (λ t u. IsNamed w (w + w + t) u.name) (λ k low. named_s w k (omega (arith, few, low))) (λ k low. named_c w k (omega (arith, few, low))) t within

signal_is_named : (w s : ℕ) (d : Bytes) → w ≤ 32 → s < signal_count (demo_net w) → IsNamed w s (get_or (signal_names (demo_net w)) s d)
signal_is_named w s d few within =
    let N : NetValue = demo_net w in
    let names : List Bytes = map (λ t. t.name) N.tables in
    elim (cases_lt s (w + w)) [
      | inl low ↦
          let there : get_or (signal_names N) s d ≡ get_or N.inputs s d = get_or_append_left N.inputs names d s (omega (arith, low, demo_inputs w)) in
          subst (IsNamed w s) (sym there) (input_named w s d few low)
      | inr high ↦
          let inside : s - (w + w) < table_count N = omega (arith, high, within, demo_inputs w) in
          let there : get_or (signal_names N) s d ≡ (table_at N.tables (s - (w + w))).name =
          get_or-append_right N.inputs names (w + w) s d (demo_inputs w) high ∙ get_or-map (λ (t : TableValue). t.name) N.tables (s - (w + w)) no_table d inside in
          let place : w + w + (s - (w + w)) ≡ s = omega (arith, high) in
          subst (λ p. IsNamed w p (get_or (signal_names N) s d)) place (subst (IsNamed w (w + w + (s - (w + w)))) (sym there) (table_named w (s - (w + w)) few inside))
    ]

names_count : (N : NetValue) → length (signal_names N) ≡ signal_count N
names_count N = omega (arith, length-append N.inputs (map (λ t. t.name) N.tables), length-map N.tables (λ (t : TableValue). t.name))

demo_names : (w : ℕ) → w ≤ 32 → AllPairs ◌≢◌ (signal_names (demo_net w))
demo_names w few i j d below within =
    let inside : j < signal_count (demo_net w) = rw (← names_count (demo_net w)) within in
    names_apart w i j _ _ below (signal_is_named w i d few (omega (arith, below, inside))) (signal_is_named w j d few inside)

demo_model : (w : ℕ) → IsName (demo_net w).model
unfolding demo_net
demo_model w = record {
  not_empty = omega arith;
  short = omega arith;
  printable = All-from_recursion IsNameByte (codes "demo")
      ((omega arith, omega arith, omega arith), ((omega arith, omega arith, omega arith), ((omega arith, omega arith, omega arith), ((omega arith, omega arith, omega arith), tt))));
  ending = λ e. omega (arith, e);
}

-- ---- tables

sum_formed : (w k : ℕ) → k < 2 ^ 32 → IsTable (sum_table w k)
sum_formed w k small =
    record { named = IsName-numbered 115 k (omega arith, omega arith, λ e. omega (arith, e)) (omega (arith, small)); widths = widths k; plane = λ _. refl }
  where
    widths : (k : ℕ) → All (λ marks. length marks ≡ length (sum_form w k).pins) (sum_form w k).rows
    widths zero = All-from_recursion (λ marks. length marks ≡ 2) (sum_form w zero).rows (refl, (refl, tt))
    widths (suc k) = All-from_recursion (λ marks. length marks ≡ 3) (sum_form w (suc k)).rows (refl, (refl, (refl, (refl, tt))))

carry_formed : (w k : ℕ) → k + 1 < 2 ^ 32 → IsTable (carry_table w k)
carry_formed w k small =
    record { named = IsName-numbered 99 (k + 1) (omega arith, omega arith, λ e. omega (arith, e)) (omega (arith, small)); widths = widths k; plane = λ _. refl }
  where
    widths : (k : ℕ) → All (λ marks. length marks ≡ length (carry_form w k).pins) (carry_form w k).rows
    widths zero = All-from_recursion (λ marks. length marks ≡ 2) (carry_form w zero).rows (refl, tt)
    widths (suc k) = All-from_recursion (λ marks. length marks ≡ 3) (carry_form w (suc k)).rows (refl, (refl, (refl, tt)))

sum_reads : (w k : ℕ) → k < w → All (λ s. s < w + w + 2 * k) (sum_form w k).pins
sum_reads w zero within = All-from_recursion (λ s. s < w + w + 2 * 0) (sum_form w 0).pins (omega (arith, within), (omega (arith, within), tt))
sum_reads w (suc k) within =
    All-from_recursion (λ s. s < w + w + 2 * suc k) (sum_form w (suc k)).pins (omega (arith, within), (omega (arith, within), (omega arith, tt)))

carry_reads : (w k : ℕ) → k < w → All (λ s. s < w + w + (2 * k + 1)) (carry_form w k).pins
carry_reads w zero within = All-from_recursion (λ s. s < w + w + (2 * 0 + 1)) (carry_form w 0).pins (omega (arith, within), (omega (arith, within), tt))
carry_reads w (suc k) within =
    All-from_recursion (λ s. s < w + w + (2 * suc k + 1)) (carry_form w (suc k)).pins (omega (arith, within), (omega (arith, within), (omega arith, tt)))

demo_in_order : (w : ℕ) → IsInOrder (w + w) (demo_net w).tables
demo_in_order w = each_table w (λ t u. All (λ s. s < w + w + t) u.pins) (sum_reads w) (carry_reads w)

pub demo_acyclic : (w : ℕ) → IsAcyclic (input_count (demo_net w)) (demo_net w).tables
demo_acyclic w = subst (λ n. IsAcyclic n (demo_net w).tables) (sym (demo_inputs w)) (IsAcyclic-in_order (w + w) (demo_net w).tables (demo_in_order w))

-- what holds of each table at its place
all_tables : (w : ℕ) (P : TableValue → Type 0) → ((t : ℕ) → t < table_count (demo_net w) → P (table_at (demo_net w).tables t)) → All P (demo_net w).tables
all_tables w P h t d within = subst P (sym (get_or_default (demo_net w).tables t d no_table within)) (h t within)

demo_reads : (w : ℕ) → All (λ t. All (λ s. s < signal_count (demo_net w)) t.pins) (demo_net w).tables
demo_reads w =
    all_tables w (λ u. All (λ s. s < signal_count (demo_net w)) u.pins)
    (λ t within. All-weaker (λ s. s < w + w + t) (λ s. s < signal_count (demo_net w)) (λ s below. omega (arith, below, within, demo_inputs w)) (table_at (demo_net w).tables t).pins
    (demo_in_order w t within))

outputs_below : (w : ℕ) → 1 ≤ w → All (λ s. s < w + w + 2 * w) (demo_net w).outputs
unfolding demo_net
outputs_below w some =
    All-append (λ s. s < w + w + 2 * w) (map (sum_signal w) (range_with_len 0 w)) (carry_signal w (w - 1) ∷ [])
    (All-map (λ s. s < w + w + 2 * w) (sum_signal w) (range_with_len 0 w)
    (λ k d inside. let low : k < w = omega (arith, inside, length-range_with_len 0 w) in rw (get_or-range_with_len 0 w k d low) (omega (arith, low))))
    (All-from_recursion (λ s. s < w + w + 2 * w) (carry_signal w (w - 1) ∷ []) (omega (arith, some), tt))

demo_drives : (w : ℕ) → 1 ≤ w → All (λ s. s < signal_count (demo_net w)) (demo_net w).outputs
demo_drives w some =
    let total : w + w + 2 * w ≡ signal_count (demo_net w) = omega (arith, demo_inputs w, demo_tables w) in
    subst (λ n. All (λ s. s < n) (demo_net w).outputs) total (outputs_below w some)

pub demo_sound : (w : ℕ) → 1 ≤ w → w ≤ 32 → IsSound (demo_net w)
demo_sound w some few = record {
  model_named = demo_model w;
  inputs_named = λ k d within. named-is_name w k _ (input_named w k d few (omega (arith, within, demo_inputs w)));
  tables_formed = all_tables w IsTable (each_table w (λ _ u. IsTable u) (λ k low. sum_formed w k (omega (arith, few, low))) (λ k low. carry_formed w k (omega (arith, few, low))));
  names_differ = demo_names w few;
  has_output = omega (arith, demo_outputs w);
  outputs_are_signals = demo_drives w some;
  pins_are_signals = demo_reads w;
  acyclic = demo_acyclic w;
}

-- ---- size

few_pins : (w : ℕ) → All (λ t. length t.pins ≤ 3) (demo_net w).tables
few_pins w = all_tables w (λ u. length u.pins ≤ 3) (each_table w (λ _ u. length u.pins ≤ 3) (λ k low. sum_pins k) (λ k low. carry_pins k))
  where
    sum_pins : (k : ℕ) → length (sum_form w k).pins ≤ 3
    sum_pins zero = omega arith
    sum_pins (suc k) = omega arith

    carry_pins : (k : ℕ) → length (carry_form w k).pins ≤ 3
    carry_pins zero = omega arith
    carry_pins (suc k) = omega arith

few_rows : (w : ℕ) → All (λ t. length t.rows ≤ 4) (demo_net w).tables
few_rows w = all_tables w (λ u. length u.rows ≤ 4) (each_table w (λ _ u. length u.rows ≤ 4) (λ k low. sum_rows k) (λ k low. carry_rows k))
  where
    sum_rows : (k : ℕ) → length (sum_form w k).rows ≤ 4
    sum_rows zero = omega arith
    sum_rows (suc k) = omega arith

    carry_rows : (k : ℕ) → length (carry_form w k).rows ≤ 4
    carry_rows zero = omega arith
    carry_rows (suc k) = omega arith

pub demo_small : (w : ℕ) → w ≤ 32 → IsSmall (demo_net w)
demo_small w few = record {
  inputs = omega (arith, few, demo_inputs w);
  outputs = omega (arith, few, demo_outputs w);
  tables = omega (arith, few, demo_tables w);
  table_pins = All-weaker (λ t. length t.pins ≤ 3) (λ t. length t.pins ≤ 256) (λ t h. omega (arith, h)) (demo_net w).tables (few_pins w);
  all_pins = omega (arith, few, demo_tables w, sum_by-le (λ (t : TableValue). length t.pins) 3 (demo_net w).tables (few_pins w));
  all_rows = omega (arith, few, demo_tables w, sum_by-le (λ (t : TableValue). length t.rows) 4 (demo_net w).tables (few_rows w));
}
