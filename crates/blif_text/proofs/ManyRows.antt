-- A net of too many rows is refused as its net without rows is, or else for its rows: no refusal before that of the rows looks at one.
use Rattle.std.proofs.Common.{◌≡◌, ℕ, zero, suc, ◌+◌, ◌-◌, ◌<◌, ◌==◌, Bool, true, false, not, ◌&&◌, ◌||◌, cond, List, []}
use Rattle.std.proofs.Common.{◌∷◌, ◌++◌, length, map, flat_map, Option, Some, None, Result, Ok, Err, refl, sym, ap, ◌∙◌, arith}
use Rattle.std.specs.Prelude.{sum_by, nat_le, nat_lt, position}
use Rattle.std.specs.List.{list_all, find, range_with_len}
use Rattle.std.proofs.lemmas.Bool.{false_from_ne_true, leb-true}
use Rattle.std.proofs.lemmas.List.{length-map}
use Rattle.std.proofs.lemmas.List.Folds.{list_all-map}
use Rattle.std.proofs.lemmas.List.Elements.{All-nil, All-map, All-weaker}
use Rattle.std.proofs.lemmas.List.Sums.{sum_by-cons}
use Rattle.semantics.specs.declared.limits.TheConstants.{MOST_INPUTS, MOST_OUTPUTS, MOST_TABLES, MOST_TABLE_PINS, MOST_PINS, MOST_ROWS}
use Rattle.semantics.specs.declared.which.Which.{Which}
use Rattle.semantics.specs.declared.which.Which.TheVariants as which
use Rattle.semantics.specs.Texts.{Bytes}
use Rattle.semantics.specs.Net.{TableValue, NetValue, table_at, input_count, signal_names, name_of, pin_count, row_count}
use Rattle.semantics.specs.Refusals.{has_name, first_doubled, is_grounded_in, first_ungrounded, first_limit}
use Rattle.blif_semantics.specs.Tables.{NamedTable}
use Rattle.blif_semantics.specs.Reading.{Refusal, doubled, no_output, undriven, cycle, limit, NamedNet, names_of, first_undriven_name}
use Rattle.blif_semantics.specs.Reading.{signal_named, numbered, unless_refused, sized, grounded, driven, with_output, single}
use Rattle.blif_semantics.specs.Named.{IsNamedTable, IsNamedNet, with_signals}
use Rattle.blif_text.specs.KeptLines.{table_without_rows, without_rows, refused_for_rows}

-- ---- nets without their rows

abbrev bare_table : TableValue → TableValue
bare_table t = record t { rows = []; plane = true }

abbrev bare : NetValue → NetValue
bare N = record N { tables = map bare_table N.tables }

tables_bare : (names : List Bytes) (tables : List NamedTable) → map (with_signals names) (map table_without_rows tables) ≡ map bare_table (map (with_signals names) tables)
tables_bare names [] = refl
tables_bare names (t ∷ tables) = ap (λ rest. bare_table (with_signals names t) ∷ rest) (tables_bare names tables)

names_bare : (tables : List NamedTable) → map (λ t. t.name) (map table_without_rows tables) ≡ map (λ t. t.name) tables
names_bare [] = refl
names_bare (t ∷ tables) = ap (λ rest. t.name ∷ rest) (names_bare tables)

pins_bare : (tables : List NamedTable) → flat_map (λ t. t.pins) (map table_without_rows tables) ≡ flat_map (λ t. t.pins) tables
pins_bare [] = refl
pins_bare (t ∷ tables) = ap (λ rest. t.pins ++ rest) (pins_bare tables)

pub names_of-bare : (d : NamedNet) → names_of (without_rows d) ≡ names_of d
names_of-bare d = ap (λ l. d.inputs ++ l) (names_bare d.tables)

numbered-bare : (d : NamedNet) → numbered (without_rows d) ≡ bare (numbered d)
unfolding numbered
numbered-bare d =
    let at : List Bytes → NetValue = λ names. record
    { model = d.model; inputs = d.inputs; tables = map (with_signals names) (map table_without_rows d.tables); outputs = map (signal_named names) d.outputs } in
    ap at (names_of-bare d)
    ∙ ap (λ ts. record { model = d.model; inputs = d.inputs; tables = ts; outputs = map (signal_named (names_of d)) d.outputs }) (tables_bare (names_of d) d.tables)

-- ---- cycles

pins_at : (tables : List TableValue) (i : ℕ) → (table_at (map bare_table tables) i).pins ≡ (table_at tables i).pins
pins_at [] i = refl
pins_at (t ∷ tables) zero = refl
pins_at (t ∷ tables) (suc i) = pins_at tables i

size_bare : (tables : List TableValue) → length (map bare_table tables) ≡ length tables
size_bare tables = length-map tables bare_table

grounded_bare : (n : ℕ) (tables : List TableValue) (steps s : ℕ) → is_grounded_in n (map bare_table tables) steps s ≡ is_grounded_in n tables steps s
grounded_bare n tables zero s = refl
grounded_bare n tables (suc steps) s =
    λ i. nat_lt s n || (nat_lt s (n + size_bare tables i) && list_all (λ p. grounded_bare n tables steps p i) (pins_at tables (s - n) i))

ungrounded_bare : (n : ℕ) (tables : List TableValue) → first_ungrounded n (map bare_table tables) ≡ first_ungrounded n tables
unfolding first_ungrounded
ungrounded_bare n tables =
    λ i. position (λ k. not (grounded_bare n tables (size_bare tables i) (n + k) i)) (range_with_len 0 (size_bare tables i))

signals_bare : (tables : List TableValue) → map (λ t. t.name) (map bare_table tables) ≡ map (λ t. t.name) tables
signals_bare [] = refl
signals_bare (t ∷ tables) = ap (λ rest. t.name ∷ rest) (signals_bare tables)

-- ---- limits

all_pins : (tables : List TableValue) → sum_by (λ t. length t.pins) (map bare_table tables) ≡ sum_by (λ t. length t.pins) tables
all_pins [] = refl
all_pins (t ∷ tables) =
    sum_by-cons (λ u. length u.pins) (bare_table t) (map bare_table tables)
    ∙ ap (λ n. length t.pins + n) (all_pins tables)
    ∙ sym (sum_by-cons (λ u. length u.pins) t tables)

no_rows : (tables : List TableValue) → sum_by (λ t. length t.rows) (map bare_table tables) ≡ 0
no_rows [] = refl
no_rows (t ∷ tables) = let sum = sum_by-cons (λ u. length u.rows) (bare_table t) (map bare_table tables) in omega (arith, sum, no_rows tables)

-- the first limit that is passed, by its six tests
abbrev passed : Bool → Bool → Bool → Bool → Bool → Bool → Option Which
passed inputs outputs tables pins all rows =
    cond inputs (Some which.Inputs) (cond outputs (Some which.Outputs) (cond tables (Some which.Tables)
    (cond pins (Some which.Pins) (cond all (Some which.AllPins) (cond rows (Some which.Rows) None)))))

last_limit : (a b c d e : Bool) (N M : NetValue) → refused_for_rows (unless_refused (passed a b c d e false) limit (Ok N)) ≡ unless_refused (passed a b c d e true) limit (Ok M)
last_limit true b c d e N M = refl
last_limit false true c d e N M = refl
last_limit false false true d e N M = refl
last_limit false false false true e N M = refl
last_limit false false false false true N M = refl
last_limit false false false false false N M = refl

sized_bare : (N : NetValue) → MOST_ROWS < row_count N → refused_for_rows (sized (bare N)) ≡ sized N
sized_bare N many =
    let inputs : Bool = not (nat_le (length N.inputs) MOST_INPUTS) in
    let outputs : Bool = not (nat_le (length N.outputs) MOST_OUTPUTS) in
    let tables : Bool = not (nat_le (length N.tables) MOST_TABLES) in
    let pins : Bool = not (list_all (λ t. nat_le (length t.pins) MOST_TABLE_PINS) N.tables) in
    let all : Bool = not (nat_le (pin_count N) MOST_PINS) in
    let rows : nat_le (row_count N) MOST_ROWS ≡ false = false_from_ne_true _ (λ t. absurd (omega (arith, leb-true (row_count N) MOST_ROWS t, many))) in
    let narrow : list_all (λ t. nat_le (length t.pins) MOST_TABLE_PINS) (map bare_table N.tables) ≡ list_all (λ t. nat_le (length t.pins) MOST_TABLE_PINS) N.tables =
    list_all-map (λ t. nat_le (length t.pins) MOST_TABLE_PINS) bare_table N.tables in
    let first : first_limit (bare N) ≡ passed inputs outputs tables pins all false =
    λ i. passed inputs outputs (not (nat_le (size_bare N.tables i) MOST_TABLES)) (not (narrow i)) (not (nat_le (all_pins N.tables i) MOST_PINS)) (not (nat_le (no_rows N.tables i) MOST_ROWS)) in
    let last : passed inputs outputs tables pins all true ≡ first_limit N = ap (λ b. passed inputs outputs tables pins all (not b)) (sym rows) in
    ap (λ o. refused_for_rows (unless_refused o limit (Ok (bare N)))) first
    ∙ last_limit inputs outputs tables pins all (bare N) N
    ∙ ap (λ o. unless_refused o limit (Ok N)) last

-- ---- the refusals before it, one behind another

for_rows-over : {X : Type 0} (refused : Option X) (refuse : X → Refusal) (rest : Result NetValue Refusal)
    → refused_for_rows (unless_refused refused refuse rest) ≡ unless_refused refused refuse (refused_for_rows rest)
for_rows-over None refuse rest = refl
for_rows-over (Some x) refuse rest = refl

for_rows-unless : (test : Bool) (refusal : Refusal) (rest : Result NetValue Refusal) → refused_for_rows (cond test (Err refusal) rest) ≡ cond test (Err refusal) (refused_for_rows rest)
for_rows-unless true refusal rest = refl
for_rows-unless false refusal rest = refl

grounded_refused : (N : NetValue) → MOST_ROWS < row_count N → refused_for_rows (grounded (bare N)) ≡ grounded N
grounded_refused N many =
    let n : ℕ = input_count N in
    for_rows-over (first_ungrounded n (map bare_table N.tables)) (λ k. cycle (name_of (signal_names (bare N)) (n + k))) (sized (bare N))
    ∙ (λ i. unless_refused (ungrounded_bare n N.tables i) (λ k. cycle (name_of (N.inputs ++ signals_bare N.tables i) (n + k))) (sized_bare N many i))

undriven_bare : (d : NamedNet) → first_undriven_name (without_rows d) ≡ first_undriven_name d
undriven_bare d = λ i. find (λ word. not (has_name (names_of-bare d i) word)) (pins_bare d.tables i ++ d.outputs)

driven_refused : (d : NamedNet) → MOST_ROWS < row_count (numbered d) → refused_for_rows (driven (without_rows d)) ≡ driven d
driven_refused d many =
    for_rows-over (first_undriven_name (without_rows d)) undriven (grounded (numbered (without_rows d)))
    ∙ ap (λ N. unless_refused (first_undriven_name (without_rows d)) undriven (refused_for_rows (grounded N))) (numbered-bare d)
    ∙ (λ i. unless_refused (undriven_bare d i) undriven (grounded_refused (numbered d) many i))

output_refused : (d : NamedNet) → MOST_ROWS < row_count (numbered d) → refused_for_rows (with_output (without_rows d)) ≡ with_output d
output_refused d many =
    for_rows-unless (length d.outputs == 0) no_output (driven (without_rows d))
    ∙ ap (λ rest. cond (length d.outputs == 0) (Err no_output) rest) (driven_refused d many)

pub single_refused : (d : NamedNet) → MOST_ROWS < row_count (numbered d) → refused_for_rows (single (without_rows d)) ≡ single d
single_refused d many =
    for_rows-over (first_doubled (names_of (without_rows d))) doubled (with_output (without_rows d))
    ∙ (λ i. unless_refused (first_doubled (names_of-bare d i)) doubled (output_refused d many i))

-- ---- what is known of a net without rows

table_formed : (t : NamedTable) → IsNamedTable t → IsNamedTable (table_without_rows t)
table_formed t h = record { named = h.named; pins = h.pins; widths = All-nil (λ marks. length marks ≡ length t.pins); plane = λ _. refl }

pub bare_formed : (d : NamedNet) → IsNamedNet d → IsNamedNet (without_rows d)
bare_formed d h = record {
  model = h.model;
  inputs = h.inputs;
  outputs = h.outputs;
  tables = All-map IsNamedTable table_without_rows d.tables (All-weaker IsNamedTable (λ t. IsNamedTable (table_without_rows t)) table_formed d.tables h.tables);
}
