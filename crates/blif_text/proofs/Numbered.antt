-- The parts of a net of names as a net, and the refusals of the whole, one behind another.
use Rattle.std.proofs.Common.{◌≡◌, ℕ, ◌+◌, ◌<◌, ◌^◌, ◌==◌, false, not, cond, List, [], ◌∷◌, ◌++◌, length, get_or, map, flat_map, All, Option, Some, None, Result, Ok, Err, IfErr, refl, sym, ap, subst}
use Rattle.std.proofs.Common.{◌∙◌, arith}
use Rattle.std.specs.Option.{option_or}
use Rattle.std.proofs.lemmas.Option.{same_Some}
use Rattle.std.proofs.lemmas.List.{get_or-map, get_or-append-add}
use Rattle.std.proofs.lemmas.List.Elements.{All-append, All-map, All-weaker}
use Rattle.std.proofs.lemmas.List.Folds.{find-append}
use Rattle.semantics.specs.declared.which.Which.{Which}
use Rattle.semantics.specs.Texts.{Bytes}
use Rattle.semantics.specs.Net.{TableValue, NetValue, input_count, signal_names, name_of, IsName}
use Rattle.semantics.specs.Order.{IsOrderOf}
use Rattle.semantics.specs.Refusals.{has_name, first_doubled, first_ungrounded, first_limit}
use Rattle.semantics.proofs.Refused.{ungrounded, acyclic-grounded, small}
use Rattle.semantics.proofs.Ordered.{order-acyclic}
use Rattle.blif_semantics.specs.Tables.{NamedTable}
use Rattle.blif_semantics.specs.Reading.{Refusal, doubled, no_output, undriven, cycle, limit, NamedNet, names_of, first_undriven_name, signal_named, numbered, unless_refused, sized, grounded, driven}
use Rattle.blif_semantics.specs.Reading.{with_output, single}
use Rattle.blif_semantics.specs.Named.{IsNamedTable, IsNamedNet, with_signals, IsDriven}
use Rattle.net_core.specs.Built.{IsWired}
use Rattle.blif_text.specs.declared.refusal.BlifRefusal.{BlifRefusal}
use Rattle.blif_text.specs.Refusals.{Tells}
use Rattle.blif_text.specs.Names.{first_unknown}

-- ---- refusals that are passed on

-- what is known of a refusal is known of the result that passes it on
pub passed_on : {T : Type 0} (r : Result T BlifRefusal) (told : BlifRefusal) (P : BlifRefusal → Type 0) → ((y : BlifRefusal) × (r ≡ Err y) × (y ≡ told)) → P told → IfErr r P
passed_on r told P (y, is, same) h = subst (λ q. IfErr q P) (sym is) (subst P (sym same) h)

refused_or : (a b : Option Bytes) (rest : Result NetValue Refusal) → unless_refused (option_or a b) undriven rest ≡ unless_refused a undriven (unless_refused b undriven rest)
refused_or None b rest = refl
refused_or (Some x) b rest = refl

-- the first unknown of words and of more words
pub unknown-append : (names words more : List Bytes) (rest : Result NetValue Refusal)
    → unless_refused (first_unknown names (words ++ more)) undriven rest ≡ unless_refused (first_unknown names words) undriven (unless_refused (first_unknown names more) undriven rest)
unknown-append names words more rest =
    ap (λ o. unless_refused o undriven rest) (find-append (λ word. not (has_name names word)) words more)
    ∙ refused_or (first_unknown names words) (first_unknown names more) rest

pub unknown-after : (names words more : List Bytes) → first_unknown names words ≡ None → first_unknown names (words ++ more) ≡ first_unknown names more
unknown-after names words more none =
    find-append (λ word. not (has_name names word)) words more ∙ ap (λ o. option_or o (first_unknown names more)) none

-- ---- tables

abbrev pins_of : List NamedTable → List Bytes
pins_of tables = flat_map (λ t. t.pins) tables

-- a table's pins are known
pub pins-next : (names : List Bytes) (tables rest : List NamedTable) (t : NamedTable) (all : Option Bytes) → tables ≡ t ∷ rest → first_unknown names t.pins ≡ None
    → first_unknown names (pins_of tables) ≡ all → first_unknown names (pins_of rest) ≡ all
pins-next names tables rest t all is known same =
    sym (unknown-after names t.pins (pins_of rest) known) ∙ ap (λ l. first_unknown names (pins_of l)) (sym is) ∙ same

-- a table has a pin that is not known
pub pins-told : (names : List Bytes) (tables rest : List NamedTable) (t : NamedTable) (all : Option Bytes) (told : BlifRefusal) → tables ≡ t ∷ rest → first_unknown names (pins_of tables) ≡ all
    → ((more : Result NetValue Refusal) → Tells told (unless_refused (first_unknown names t.pins) undriven more)) → (more : Result NetValue Refusal) → Tells told (unless_refused all undriven more)
pins-told names tables rest t all told is same h more =
    let cut : unless_refused all undriven more ≡ unless_refused (first_unknown names t.pins) undriven (unless_refused (first_unknown names (pins_of rest)) undriven more) =
    ap (λ o. unless_refused o undriven more) (sym same ∙ ap (λ l. first_unknown names (pins_of l)) is) ∙ unknown-append names t.pins (pins_of rest) more in
    λ refusal e. cut ∙ h (unless_refused (first_unknown names (pins_of rest)) undriven more) refusal e

-- ---- cycles and limits

pub order-grounded : (n : ℕ) (tables : List TableValue) (order : List ℕ) → IsOrderOf n tables order → first_ungrounded n tables ≡ None
order-grounded n tables order h = acyclic-grounded n tables (order-acyclic n tables order h)

pub table_within : (n : ℕ) (tables : List TableValue) (i : ℕ) → first_ungrounded n tables ≡ Some i → i < length tables
table_within n tables i found = (ungrounded n tables i found).within

pub cycle_told : (N : NetValue) (i : ℕ) (name : Bytes) (t : TableValue) → first_ungrounded (input_count N) N.tables ≡ Some i → name ≡ (get_or N.tables i t).name → (refusal : Refusal)
    → Some (cycle name) ≡ Some refusal → grounded N ≡ Err refusal
cycle_told N i name t found is refusal e =
    let at : name_of (signal_names N) (input_count N + i) ≡ name =
    get_or-append-add N.inputs (map (λ u. u.name) N.tables) i []
    ∙ get_or-map (λ u. u.name) N.tables i t [] (table_within (input_count N) N.tables i found)
    ∙ sym is in
    ap (λ o. unless_refused o (λ j. cycle (name_of (signal_names N) (input_count N + j))) (sized N)) found
    ∙ ap (λ n. Err (cycle n)) at
    ∙ ap Err (same_Some _ _ e)

ordered : (N : NetValue) → first_ungrounded (input_count N) N.tables ≡ None → grounded N ≡ sized N
ordered N none = ap (λ o. unless_refused o (λ j. cycle (name_of (signal_names N) (input_count N + j))) (sized N)) none

pub limit_told : (N : NetValue) (which : Which) → first_ungrounded (input_count N) N.tables ≡ None → Some which ≡ first_limit N → (refusal : Refusal) → Some (limit which) ≡ Some refusal
    → grounded N ≡ Err refusal
limit_told N which none passed refusal e = ordered N none ∙ ap (λ o. unless_refused o limit (Ok N)) (sym passed) ∙ ap Err (same_Some _ _ e)

pub ordered_ok : (N : NetValue) → first_ungrounded (input_count N) N.tables ≡ None → first_limit N ≡ None → grounded N ≡ Ok N
ordered_ok N none small = ordered N none ∙ ap (λ o. unless_refused o limit (Ok N)) small

pub wired : (N : NetValue) → IsDriven N → length N.inputs + length N.tables < 2 ^ 31 → first_limit N ≡ None → IsWired N
wired N h few none =
    let size = (small N none).outputs in
    record {
      names_differ = h.names_differ;
      has_output = h.has_output;
      outputs_are_signals = h.outputs_are_signals;
      few_signals = few;
      few_outputs = omega (arith, size);
    }

-- ---- the whole

-- parts that were numbered are the numbered net
pub numbered_as : (d : NamedNet) (names : List Bytes) (N : NetValue) → names ≡ names_of d → N.model ≡ d.model → N.inputs ≡ d.inputs → N.tables ≡ map (with_signals names) d.tables
    → N.outputs ≡ map (signal_named names) d.outputs → N ≡ numbered d
unfolding numbered
numbered_as d names N same model inputs tables outputs =
    let there : N ≡ record { model = d.model; inputs = d.inputs; tables = map (with_signals names) d.tables; outputs = map (signal_named names) d.outputs }
    = rw (sym model, sym inputs, sym tables, sym outputs) refl in
    there ∙ ap (λ n. record { model = d.model; inputs = d.inputs; tables = map (with_signals n) d.tables; outputs = map (signal_named n) d.outputs }) same

-- nothing is missing where the pins and the outputs are known
pub none_undriven : (d : NamedNet) (names outputs : List Bytes) (tables : List NamedTable) → names ≡ names_of d → tables ≡ d.tables → outputs ≡ d.outputs → first_unknown names (pins_of tables) ≡ None
    → first_unknown names outputs ≡ None → first_undriven_name d ≡ None
none_undriven d names outputs tables same is words pins known =
    ap (λ n. first_unknown n (pins_of d.tables ++ d.outputs)) (sym same)
    ∙ unknown-after names (pins_of d.tables) d.outputs (ap (λ ts. first_unknown names (pins_of ts)) (sym is) ∙ pins)
    ∙ ap (first_unknown names) (sym words)
    ∙ known

pub driven-grounded : (d : NamedNet) → first_undriven_name d ≡ None → driven d ≡ grounded (numbered d)
driven-grounded d none = ap (λ o. unless_refused o undriven (grounded (numbered d))) none

-- a pin is missing
pub pin_told : (d : NamedNet) (names : List Bytes) (tables : List NamedTable) (told : BlifRefusal) → names ≡ names_of d → tables ≡ d.tables
    → ((more : Result NetValue Refusal) → Tells told (unless_refused (first_unknown names (pins_of tables)) undriven more)) → Tells told (driven d)
pin_told d names tables told same is h = λ refusal e.
    ap (λ n. unless_refused (first_unknown n (pins_of d.tables ++ d.outputs)) undriven (grounded (numbered d))) (sym same)
    ∙ unknown-append names (pins_of d.tables) d.outputs (grounded (numbered d))
    ∙ ap (λ ts. unless_refused (first_unknown names (pins_of ts)) undriven (unless_refused (first_unknown names d.outputs) undriven (grounded (numbered d)))) (sym is)
    ∙ h (unless_refused (first_unknown names d.outputs) undriven (grounded (numbered d))) refusal e

-- an output is missing
pub output_told : (d : NamedNet) (names outputs : List Bytes) (tables : List NamedTable) (told : BlifRefusal) → names ≡ names_of d → tables ≡ d.tables → outputs ≡ d.outputs
    → first_unknown names (pins_of tables) ≡ None → ((more : Result NetValue Refusal) → Tells told (unless_refused (first_unknown names outputs) undriven more)) → Tells told (driven d)
output_told d names outputs tables told same is words pins h = λ refusal e.
    ap (λ n. unless_refused (first_unknown n (pins_of d.tables ++ d.outputs)) undriven (grounded (numbered d))) (sym same)
    ∙ ap (λ o. unless_refused o undriven (grounded (numbered d))) (unknown-after names (pins_of d.tables) d.outputs (ap (λ ts. first_unknown names (pins_of ts)) (sym is) ∙ pins))
    ∙ ap (λ w. unless_refused (first_unknown names w) undriven (grounded (numbered d))) (sym words)
    ∙ h (grounded (numbered d)) refusal e

-- the driven names of a net of names are names
pub names_named : (d : NamedNet) → IsNamedNet d → All IsName (names_of d)
names_named d h =
    All-append IsName d.inputs (map (λ t. t.name) d.tables) h.inputs
    (All-map IsName (λ t. t.name) d.tables (All-weaker IsNamedTable (λ t. IsName t.name) (λ t k. k.named) d.tables h.tables))

pub single-driven : (d : NamedNet) → first_doubled (names_of d) ≡ None → (length d.outputs == 0) ≡ false → single d ≡ driven d
single-driven d none some =
    ap (λ o. unless_refused o doubled (with_output d)) none ∙ ap (λ b. cond b (Err no_output) (driven d)) some

-- a name is doubled
pub doubled_told : (d : NamedNet) (names : List Bytes) (told : BlifRefusal) → names ≡ names_of d → ((more : Result NetValue Refusal) → Tells told (unless_refused (first_doubled names) doubled more))
    → Tells told (single d)
doubled_told d names told same h = λ refusal e. ap (λ n. unless_refused (first_doubled n) doubled (with_output d)) (sym same) ∙ h (with_output d) refusal e

-- the names of the inputs and of the tables
pub names_as : (d : NamedNet) (inputs : List Bytes) (tables : List NamedTable) → inputs ≡ d.inputs → tables ≡ d.tables → inputs ++ map (λ t. t.name) tables ≡ names_of d
names_as d inputs tables same is = ap (λ l. l ++ map (λ t. t.name) tables) same ∙ ap (λ ts. d.inputs ++ map (λ t. t.name) ts) is
