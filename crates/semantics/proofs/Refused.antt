-- Each refusal of parts is absent exactly where what it refuses is.
use Rattle.std.proofs.Common.{◌≡◌, ◌≢◌, ℕ, zero, suc, ◌+◌, ◌-◌, ◌<◌, ◌≤◌, Bool, true, false, cond, not, ltb, leb, eqb, List, [], ◌∷◌, ◌++◌, flat_map, length, get_or, find, All, AllPairs, Option}
use Rattle.std.proofs.Common.{Some, None, Decides, ne_eqb, refl, ap, sym, subst, ◌∙◌, append_assoc, append-nil, true≢false, arith}
use Rattle.std.specs.Str.{bytes_eq}
use Rattle.std.specs.List.{list_all, list_any, AllByRecursion, HoldsAt, position_or_len, range_with_len}
use Rattle.std.proofs.lemmas.Bool.{not-false, eqb-false, lt-ltb, ltb-true, ltb-false, le-ltb, le-leb, leb-true, false_from_ne_true}
use Rattle.std.proofs.lemmas.Bool.Decides.{Decides-and, Decides-or, Decides-ltb, Decides-not, Decides-by_and, Decides-by_or}
use Rattle.std.proofs.lemmas.List.{length-append, get_or_default, get_or_append_left, get_or-append-add}
use Rattle.std.proofs.lemmas.List.Elements.{All-from_recursion, recursion_from_All}
use Rattle.std.proofs.lemmas.List.FromFn.{length-range_with_len, get_or-range_with_len}
use Rattle.std.proofs.lemmas.List.Quantifiers.{all_pairs_push}
use Rattle.std.proofs.lemmas.List.Sums.{position_or_len_is, passes_at_first, fails_before_first}
use Rattle.std.proofs.lemmas.Option.{none-some, cond_some}
use Rattle.std.proofs.lemmas.Slice.Eq.{bytes_eq-Decides}
use Rattle.semantics.specs.declared.limits.TheConstants.{MOST_INPUTS, MOST_OUTPUTS, MOST_TABLES, MOST_TABLE_PINS, MOST_PINS, MOST_ROWS}
use Rattle.semantics.specs.Texts.{Bytes}
use Rattle.semantics.specs.Net.{TableValue, NetValue, table_at, input_count, signal_count, signal_names, pin_count, row_count, IsName, IsTable, IsGroundedIn, IsAcyclic, IsSound, IsSmall}
use Rattle.semantics.specs.Refusals.{has_name, first_doubled_after, first_doubled, signals_read, first_undriven, is_grounded_in, is_ungrounded, first_ungrounded, IsFirstUngrounded, first_limit}
use Rattle.semantics.specs.Refusals.{or_else, net_refusal}

-- ---- no answer

-- nothing is told by a test that fails, and nothing after it
none_if : {X : Type 0} (told : Bool) (x : X) (rest : Option X) → cond told (Some x) rest ≡ None → (told ≡ false) × (rest ≡ None)
none_if false x rest none = (refl, none)
none_if true x rest none = absurd (none-some x (sym none))

-- ---- doubled names

-- whether a name stands at some place
pub Decides-has_name : (names : List Bytes) (word : Bytes) → Decides (has_name names word) ((k : ℕ) × (k < length names) × HoldsAt (λ name. word ≡ name) names k)
Decides-has_name names word = Decides-by_or (bytes_eq word) (λ name. word ≡ name) (list_any (bytes_eq word)) (bytes_eq-Decides word) refl (λ x xs. refl) names

-- a name that stands nowhere is other than each
pub apart_from : (names : List Bytes) (word : Bytes) → has_name names word ≡ false → (k : ℕ) (d : Bytes) → k < length names → get_or names k d ≢ word
apart_from names word none k d within e =
    true≢false (sym ((Decides-has_name names word).1 (k, within, λ c. sym (get_or_default names k c d within ∙ e))) ∙ none)

-- what stands behind the names is other than they where all differ
no_name_before : (earlier : List Bytes) (name : Bytes) (names : List Bytes) → AllPairs ◌≢◌ (earlier ++ name ∷ names) → has_name earlier name ≡ false
no_name_before earlier name names differ =
    false_from_ne_true (has_name earlier name)
    (λ found.
    let at = (Decides-has_name earlier name).0 found in
    differ at.0 (length earlier + 0) [] (omega (arith, at.1)) (omega (arith, length-append earlier (name ∷ names)))
    (get_or_append_left earlier (name ∷ names) [] at.0 at.1 ∙ sym (at.2 []) ∙ sym (get_or-append-add earlier (name ∷ names) 0 [])))

differ_after : (earlier names : List Bytes) → AllPairs ◌≢◌ earlier → first_doubled_after earlier names ≡ None → AllPairs ◌≢◌ (earlier ++ names)
differ_after earlier [] differ none = subst (AllPairs ◌≢◌) (sym (append-nil earlier)) differ
differ_after earlier (name ∷ names) differ none =
    let apart = none_if (has_name earlier name) name (first_doubled_after (earlier ++ name ∷ []) names) none in
    subst (AllPairs ◌≢◌) (append_assoc earlier (name ∷ []) names)
    (differ_after (earlier ++ name ∷ []) names (all_pairs_push ◌≢◌ earlier name differ (apart_from earlier name apart.0)) apart.1)

undoubled_after : (earlier names : List Bytes) → AllPairs ◌≢◌ (earlier ++ names) → first_doubled_after earlier names ≡ None
undoubled_after earlier [] differ = refl
undoubled_after earlier (name ∷ names) differ =
    rw (no_name_before earlier name names differ) (undoubled_after (earlier ++ name ∷ []) names (subst (AllPairs ◌≢◌) (sym (append_assoc earlier (name ∷ []) names)) differ))

pub undoubled : (names : List Bytes) → first_doubled names ≡ None → AllPairs ◌≢◌ names
undoubled names none = differ_after [] names (λ i j d low short. absurd (omega arith)) none

pub differ-undoubled : (names : List Bytes) → AllPairs ◌≢◌ names → first_doubled names ≡ None
differ-undoubled names differ = undoubled_after [] names differ

-- ---- what is read and is no signal

all_below : (bound : ℕ) (signals : List ℕ) → find (λ s. not (ltb s bound)) signals ≡ None → AllByRecursion (λ s. s < bound) signals
all_below bound [] none = tt
all_below bound (s ∷ signals) none =
    let here = none_if (not (ltb s bound)) s (find (λ r. not (ltb r bound)) signals) none in
    (ltb-true s bound (not-false (ltb s bound) here.0), all_below bound signals here.1)

none_past : (bound : ℕ) (signals : List ℕ) → AllByRecursion (λ s. s < bound) signals → find (λ s. not (ltb s bound)) signals ≡ None
none_past bound [] h = refl
none_past bound (s ∷ signals) h = rw (lt-ltb s bound h.0) (none_past bound signals h.1)

-- the pins of all tables, and what stands behind them
each_read : (P : ℕ → Type 0) (tables : List TableValue) (rest : List ℕ) → AllByRecursion P (flat_map (λ t. t.pins) tables ++ rest) → AllByRecursion (λ t. All P t.pins) tables × AllByRecursion P rest
each_read P [] rest h = (tt, h)
each_read P (t ∷ tables) rest h =
    let here = split_at t.pins (flat_map (λ u. u.pins) tables ++ rest) (subst (AllByRecursion P) (append_assoc t.pins (flat_map (λ u. u.pins) tables) rest) h) in
    let more = each_read P tables rest here.1 in
    ((All-from_recursion P t.pins here.0, more.0), more.1)
  where
    split_at : (xs ys : List ℕ) → AllByRecursion P (xs ++ ys) → AllByRecursion P xs × AllByRecursion P ys
    split_at [] ys k = (tt, k)
    split_at (x ∷ xs) ys k = let rest = split_at xs ys k.1 in ((k.0, rest.0), rest.1)

all_read : (P : ℕ → Type 0) (tables : List TableValue) (rest : List ℕ) → AllByRecursion (λ t. All P t.pins) tables → AllByRecursion P rest → AllByRecursion P (flat_map (λ t. t.pins) tables ++ rest)
all_read P [] rest h k = k
all_read P (t ∷ tables) rest h k =
    subst (AllByRecursion P) (sym (append_assoc t.pins (flat_map (λ u. u.pins) tables) rest))
    (joined t.pins (flat_map (λ u. u.pins) tables ++ rest) (recursion_from_All P t.pins h.0) (all_read P tables rest h.1 k))
  where
    joined : (xs ys : List ℕ) → AllByRecursion P xs → AllByRecursion P ys → AllByRecursion P (xs ++ ys)
    joined [] ys a b = b
    joined (x ∷ xs) ys a b = (a.0, joined xs ys a.1 b)

pub driven : (N : NetValue) → first_undriven N ≡ None → All (λ t. All (λ s. s < signal_count N) t.pins) N.tables × All (λ s. s < signal_count N) N.outputs
driven N none =
    let all = each_read (λ s. s < signal_count N) N.tables N.outputs (all_below (signal_count N) (signals_read N) none) in
    (All-from_recursion (λ t. All (λ s. s < signal_count N) t.pins) N.tables all.0, All-from_recursion (λ s. s < signal_count N) N.outputs all.1)

pub signals-driven : (N : NetValue) → All (λ t. All (λ s. s < signal_count N) t.pins) N.tables × All (λ s. s < signal_count N) N.outputs → first_undriven N ≡ None
signals-driven N h =
    none_past (signal_count N) (signals_read N)
    (all_read (λ s. s < signal_count N) N.tables N.outputs
    (recursion_from_All (λ t. All (λ s. s < signal_count N) t.pins) N.tables h.0) (recursion_from_All (λ s. s < signal_count N) N.outputs h.1))

-- ---- tables that are not grounded

Decides-list_all : {X : Type 0} (p : X → Bool) (P : X → Type 0) → ((x : X) → Decides (p x) (P x)) → (xs : List X) → Decides (list_all p xs) (AllByRecursion P xs)
Decides-list_all p P each [] = ((λ _. tt), (λ _. refl))
Decides-list_all p P each (x ∷ xs) = Decides-and (p x) (list_all p xs) (each x) (Decides-list_all p P each xs)

pub Decides-grounded : (n : ℕ) (tables : List TableValue) (steps s : ℕ) → Decides (is_grounded_in n tables steps s) (IsGroundedIn n tables steps s)
Decides-grounded n tables zero s = Decides-ltb s n
Decides-grounded n tables (suc steps) s =
    let pins = (table_at tables (s - n)).pins in
    Decides-or (ltb s n) _ (Decides-ltb s n)
    (Decides-and (ltb s (n + length tables)) (list_all (is_grounded_in n tables steps) pins) (Decides-ltb s (n + length tables))
    (Decides-list_all (is_grounded_in n tables steps) (IsGroundedIn n tables steps) (λ p. Decides-grounded n tables steps p) pins))

fails_if_grounded : (n : ℕ) (tables : List TableValue) (i : ℕ) → IsGroundedIn n tables (length tables) (n + i) → is_ungrounded n tables i ≡ false
fails_if_grounded n tables i g = ap not ((Decides-grounded n tables (length tables) (n + i)).1 g)

grounded_if_fails : (n : ℕ) (tables : List TableValue) (i : ℕ) → is_ungrounded n tables i ≡ false → IsGroundedIn n tables (length tables) (n + i)
grounded_if_fails n tables i e =
    (Decides-grounded n tables (length tables) (n + i)).0 (not-false (is_grounded_in n tables (length tables) (n + i)) e)

Decides-ungrounded : (n : ℕ) (tables : List TableValue) (i : ℕ) → Decides (is_ungrounded n tables i) (¬ IsGroundedIn n tables (length tables) (n + i))
Decides-ungrounded n tables i = Decides-not _ (Decides-grounded n tables (length tables) (n + i))

-- the test at a place of the numbers from 0 on
at_place : (n : ℕ) (tables : List TableValue) (i : ℕ) → i < length tables → is_ungrounded n tables (get_or (range_with_len 0 (length tables)) i 0) ≡ is_ungrounded n tables i
at_place n tables i low = let e : get_or (range_with_len 0 (length tables)) i 0 ≡ i = get_or-range_with_len 0 (length tables) i 0 low ∙ omega arith in ap (is_ungrounded n tables) e

pub grounded : (n : ℕ) (tables : List TableValue) → first_ungrounded n tables ≡ None → IsAcyclic n tables
unfolding first_ungrounded
grounded n tables none i within =
    let m = length tables in
    let size = length-range_with_len 0 m in
    let first = position_or_len (is_ungrounded n tables) (range_with_len 0 m) in
    let past = ltb-false first (length (range_with_len 0 m)) (none_if (ltb first (length (range_with_len 0 m))) first None none).0 in
    grounded_if_fails n tables i (sym (at_place n tables i within) ∙ fails_before_first (is_ungrounded n tables) (range_with_len 0 m) i 0 (omega (arith, within, size, past)))

pub acyclic-grounded : (n : ℕ) (tables : List TableValue) → IsAcyclic n tables → first_ungrounded n tables ≡ None
unfolding first_ungrounded
acyclic-grounded n tables acyclic =
    let m = length tables in
    let size = length-range_with_len 0 m in
    let place = position_or_len_is (is_ungrounded n tables) (range_with_len 0 m) m 0 (omega (arith, size))
    (λ k low. at_place n tables k low ∙ fails_if_grounded n tables k (acyclic k low)) (λ low. absurd (omega (arith, size))) in
    rw (place, size, le-ltb m m (omega arith)) refl

pub ungrounded : (n : ℕ) (tables : List TableValue) (i : ℕ) → first_ungrounded n tables ≡ Some i → IsFirstUngrounded n tables i
unfolding first_ungrounded
ungrounded n tables i found =
    let m = length tables in
    let size = length-range_with_len 0 m in
    let p = is_ungrounded n tables in
    let first = position_or_len p (range_with_len 0 m) in
    let is : (ltb first (length (range_with_len 0 m)) ≡ true) × (first ≡ i) = cond_some (ltb first (length (range_with_len 0 m))) first i found in
    let low : first < length (range_with_len 0 m) = ltb-true first (length (range_with_len 0 m)) is.0 in
    let within : i < m = omega (arith, low, is.1, size) in
    record {
      within = within;
      ungrounded = (Decides-ungrounded n tables i).0 (sym (at_place n tables i within) ∙ ap (λ j. p (get_or (range_with_len 0 m) j 0)) (sym is.1) ∙ passes_at_first p (range_with_len 0 m) 0 low);
      before = λ j below. grounded_if_fails n tables j (sym (at_place n tables j (omega (arith, within, below))) ∙ fails_before_first p (range_with_len 0 m) j 0 (omega (arith, is.1, below)));
    }

pub first-ungrounded : (n : ℕ) (tables : List TableValue) (i : ℕ) → IsFirstUngrounded n tables i → first_ungrounded n tables ≡ Some i
unfolding first_ungrounded
first-ungrounded n tables i f =
    let m = length tables in
    let size = length-range_with_len 0 m in
    let place = position_or_len_is (is_ungrounded n tables) (range_with_len 0 m) i 0 (omega (arith, size, f.within))
    (λ k low. at_place n tables k (omega (arith, f.within, low)) ∙ fails_if_grounded n tables k (f.before k low)) (λ _. at_place n tables i f.within ∙ (Decides-ungrounded n tables i).1 f.ungrounded)
    in
    rw (place, size, lt-ltb i m f.within) refl

-- ---- limits

-- a limit that is not passed, and what is told after it
not_passed : {X : Type 0} (kept : Bool) (refused : X) (rest : Option X) → cond (not kept) (Some refused) rest ≡ None → (kept ≡ true) × (rest ≡ None)
not_passed kept refused rest none = let here = none_if (not kept) refused rest none in (not-false kept here.0, here.1)

pub Decides-narrow : (tables : List TableValue) → Decides (list_all (λ t. leb (length t.pins) MOST_TABLE_PINS) tables) (All (λ t. length t.pins ≤ MOST_TABLE_PINS) tables)
Decides-narrow tables =
    Decides-by_and (λ t. leb (length t.pins) MOST_TABLE_PINS) (λ t. length t.pins ≤ MOST_TABLE_PINS) (list_all (λ t. leb (length t.pins) MOST_TABLE_PINS))
    (λ t. (leb-true (length t.pins) MOST_TABLE_PINS, le-leb (length t.pins) MOST_TABLE_PINS)) refl (λ t ts. refl) tables

pub small : (N : NetValue) → first_limit N ≡ None → IsSmall N
small N none =
    let inputs = not_passed (leb (length N.inputs) MOST_INPUTS) _ _ none in
    let outputs = not_passed (leb (length N.outputs) MOST_OUTPUTS) _ _ inputs.1 in
    let tables = not_passed (leb (length N.tables) MOST_TABLES) _ _ outputs.1 in
    let pins = not_passed (list_all (λ t. leb (length t.pins) MOST_TABLE_PINS) N.tables) _ _ tables.1 in
    let all = not_passed (leb (pin_count N) MOST_PINS) _ _ pins.1 in
    let rows = not_passed (leb (row_count N) MOST_ROWS) _ _ all.1 in
    record {
      inputs = leb-true _ _ inputs.0;
      outputs = leb-true _ _ outputs.0;
      tables = leb-true _ _ tables.0;
      table_pins = (Decides-narrow N.tables).0 pins.0;
      all_pins = leb-true _ _ all.0;
      all_rows = leb-true _ _ rows.0;
    }

pub limits-small : (N : NetValue) → IsSmall N → first_limit N ≡ None
limits-small N h =
    rw (
      le-leb (length N.inputs) MOST_INPUTS h.inputs,
      le-leb (length N.outputs) MOST_OUTPUTS h.outputs,
      le-leb (length N.tables) MOST_TABLES h.tables,
      (Decides-narrow N.tables).1 h.table_pins,
      le-leb (pin_count N) MOST_PINS h.all_pins,
      le-leb (row_count N) MOST_ROWS h.all_rows,
    ) refl

-- ---- the whole

no_refusal : {X R : Type 0} (o : Option X) (refuse : X → R) (rest : Option R) → or_else o refuse rest ≡ None → (o ≡ None) × (rest ≡ None)
no_refusal None refuse rest none = (refl, none)
no_refusal (Some x) refuse rest none = absurd (none-some (refuse x) (sym none))

pub whole : (N : NetValue) → IsName N.model → All IsName N.inputs → All IsTable N.tables → net_refusal N ≡ None → IsSound N × IsSmall N
unfolding net_refusal
whole N model inputs tables none =
    let names = no_refusal (first_doubled (signal_names N)) _ _ none in
    let outputs = none_if (eqb (length N.outputs) 0) _ _ names.1 in
    let signals = no_refusal (first_undriven N) _ _ outputs.1 in
    let order = no_refusal (first_ungrounded (input_count N) N.tables) _ _ signals.1 in
    let limits = no_refusal (first_limit N) _ _ order.1 in
    let read = driven N signals.0 in (
      record {
        model_named = model;
        inputs_named = inputs;
        tables_formed = tables;
        names_differ = undoubled (signal_names N) names.0;
        has_output = (let some : length N.outputs ≢ 0 = eqb-false (length N.outputs) 0 outputs.0 in omega arith);
        outputs_are_signals = read.1;
        pins_are_signals = read.0;
        acyclic = grounded (input_count N) N.tables order.0;
      },
      small N limits.0,
    )

pub sound-whole : (N : NetValue) → IsSound N → IsSmall N → net_refusal N ≡ None
unfolding net_refusal
sound-whole N sound little =
    rw (
      differ-undoubled (signal_names N) sound.names_differ,
      ne_eqb (length N.outputs) 0 (let some = sound.has_output in λ e. omega (arith, some, e)),
      signals-driven N (sound.pins_are_signals, sound.outputs_are_signals),
      acyclic-grounded (input_count N) N.tables sound.acyclic,
      limits-small N little,
    ) refl
