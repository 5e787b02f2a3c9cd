-- A net of names with its signals numbered: what is driven, and what refuses it.
use Rattle.std.proofs.Common.{◌≡◌, ◌+◌, ◌<◌, Bool, true, false, ◌==◌, cond, List, [], ◌∷◌, ◌++◌, map, flat_map, length, All, Option, Some, None, Result, Ok, Err, refl, ap, sym, subst, ◌∙◌, arith}
use Rattle.std.specs.List.{AllByRecursion}
use Rattle.std.proofs.lemmas.Bool.{ne_eqb}
use Rattle.std.proofs.lemmas.List.{length-append, length-map}
use Rattle.std.proofs.lemmas.List.Elements.{All-nil, All-cons}
use Rattle.semantics.specs.Texts.{Bytes}
use Rattle.semantics.specs.Net.{NetValue, input_count, signal_names, name_of, signal_count}
use Rattle.semantics.specs.Refusals.{has_name, first_doubled, first_undriven, first_ungrounded, first_limit, NetRefused, or_else, net_refusal}
use Rattle.semantics.specs.Refusals.NetRefused.{doubled as parts_doubled, no_output as parts_no_output, undriven as parts_undriven, cycle as parts_cycle, limit as parts_limit}
use Rattle.semantics.proofs.Refused.{signals-driven}
use Rattle.blif_semantics.specs.Tables.{NamedTable}
use Rattle.blif_semantics.specs.Reading.{Refusal, doubled, no_output, undriven, cycle, NamedNet, names_of, names_read, first_undriven_name, signal_named, numbered, unless_refused, sized, grounded}
use Rattle.blif_semantics.specs.Reading.{driven, with_output, single}
use Rattle.blif_semantics.specs.Laws.{refusal_of, reading_of_parts}
use Rattle.blif_semantics.specs.Named.{with_signals}
use Rattle.blif_semantics.proofs.Looked.{signal_named-below, each_there}

names_kept : (names : List Bytes) (tables : List NamedTable) → map (λ t. t.name) (map (with_signals names) tables) ≡ map (λ t. t.name) tables
names_kept names [] = refl
names_kept names (t ∷ tables) = ap (λ rest. t.name ∷ rest) (names_kept names tables)

abbrev IsThere : List Bytes → Bytes → Type 0
IsThere names word = has_name names word ≡ true

parts_there : (names words more : List Bytes) → AllByRecursion (IsThere names) (words ++ more) → AllByRecursion (IsThere names) words × AllByRecursion (IsThere names) more
parts_there names [] more h = (tt, h)
parts_there names (word ∷ words) more h = let parts = parts_there names words more h.1 in ((h.0, parts.0), parts.1)

words_below : (names words : List Bytes) → AllByRecursion (IsThere names) words → All (λ s. s < length names) (map (signal_named names) words)
words_below names [] h = All-nil (λ s. s < length names)
words_below names (word ∷ words) h =
    All-cons (λ s. s < length names) (signal_named names word) (map (signal_named names) words) (signal_named-below names word h.0) (words_below names words h.1)

pins_below : (names : List Bytes) (tables : List NamedTable) → AllByRecursion (IsThere names) (flat_map (λ t. t.pins) tables)
    → All (λ t. All (λ s. s < length names) t.pins) (map (with_signals names) tables)
pins_below names [] h = All-nil (λ t. All (λ s. s < length names) t.pins)
pins_below names (t ∷ tables) h =
    let parts = parts_there names t.pins (flat_map (λ u. u.pins) tables) h in
    All-cons (λ u. All (λ s. s < length names) u.pins) (with_signals names t) (map (with_signals names) tables) (words_below names t.pins parts.0) (pins_below names tables parts.1)

pub signal_names-numbered : (d : NamedNet) → signal_names (numbered d) ≡ names_of d
unfolding numbered
signal_names-numbered d = ap (λ rest. d.inputs ++ rest) (names_kept (names_of d) d.tables)

outputs_kept : (d : NamedNet) → length (numbered d).outputs ≡ length d.outputs
unfolding numbered
outputs_kept d = length-map d.outputs (signal_named (names_of d))

pub length-names_of : (d : NamedNet) → length (names_of d) ≡ signal_count (numbered d)
unfolding numbered
length-names_of d =
    length-append d.inputs (map (λ t. t.name) d.tables)
    ∙ ap (λ k. length d.inputs + k) (length-map d.tables (λ t. t.name) ∙ sym (length-map d.tables (with_signals (names_of d))))

-- where each name that is read is driven, each pin and output is a signal
pub signals_below : (d : NamedNet) → first_undriven_name d ≡ None
    → All (λ t. All (λ s. s < signal_count (numbered d)) t.pins) (numbered d).tables × All (λ s. s < signal_count (numbered d)) (numbered d).outputs
unfolding numbered
signals_below d none =
    let names : List Bytes = names_of d in
    let N : NetValue = numbered d in
    let count = length-names_of d in
    let there = parts_there names (flat_map (λ t. t.pins) d.tables) d.outputs (each_there names (names_read d) none) in (
      subst (λ k. All (λ t. All (λ s. s < k) t.pins) N.tables) count (pins_below names d.tables there.0),
      subst (λ k. All (λ s. s < k) N.outputs) count (words_below names d.outputs there.1),
    )

-- ---- refusals

-- the reading of parts with an answer
judged : NetValue → Option NetRefused → Result NetValue Refusal
judged N refused = elim refused [ None ↦ Ok N | Some r ↦ Err (refusal_of (signal_names N) r) ]

judged-or : {X : Type 0} (N : NetValue) (o : Option X) (refuse : X → NetRefused) (rest : Option NetRefused)
    → judged N (or_else o refuse rest) ≡ unless_refused o (λ x. refusal_of (signal_names N) (refuse x)) (judged N rest)
unfolding judged
judged-or N None refuse rest = refl
judged-or N (Some x) refuse rest = refl

judged-if : (N : NetValue) (refused : Bool) (rest : Option NetRefused) → judged N (cond refused (Some parts_no_output) rest) ≡ cond refused (Err no_output) (judged N rest)
unfolding judged
judged-if N true rest = refl
judged-if N false rest = refl

pub driven_parts : (d : NamedNet) → first_undriven_name d ≡ None → single d ≡ reading_of_parts (numbered d)
unfolding net_refusal judged
driven_parts d none =
    let N : NetValue = numbered d in
    let sizes : Option NetRefused = or_else (first_limit N) parts_limit None in
    let orders : Option NetRefused = or_else (first_ungrounded (input_count N) N.tables) (λ i. parts_cycle (input_count N + i)) sizes in
    let reads : Option NetRefused = or_else (first_undriven N) parts_undriven orders in
    let outputs : Option NetRefused = cond (length N.outputs == 0) (Some parts_no_output) reads in
    let all_driven : first_undriven N ≡ None = signals-driven N (signals_below d none) in
    let sized_parts : judged N sizes ≡ sized N = judged-or N (first_limit N) parts_limit None in
    let grounded_parts : judged N orders ≡ grounded N =
    judged-or N (first_ungrounded (input_count N) N.tables) (λ i. parts_cycle (input_count N + i)) sizes
    ∙ ap (unless_refused (first_ungrounded (input_count N) N.tables) (λ i. cycle (name_of (signal_names N) (input_count N + i)))) sized_parts in
    let read_parts : judged N reads ≡ grounded N = ap (λ o. judged N (or_else o parts_undriven orders)) all_driven ∙ grounded_parts in
    let read_names : driven d ≡ grounded N = ap (λ o. unless_refused o undriven (grounded N)) none in
    let count : length N.outputs ≡ length d.outputs = outputs_kept d in
    let output_parts : judged N outputs ≡ with_output d =
    judged-if N (length N.outputs == 0) reads ∙ ap (cond (length N.outputs == 0) (Err no_output)) (read_parts ∙ sym read_names) ∙ ap (λ n. cond (n == 0) (Err no_output) (driven d)) count in
    sym (
    judged-or N (first_doubled (signal_names N)) parts_doubled outputs
    ∙ ap (unless_refused (first_doubled (signal_names N)) doubled) output_parts
    ∙ ap (λ names. unless_refused (first_doubled names) doubled (with_output d)) (signal_names-numbered d)
    )

pub undriven_name : (d : NamedNet) (name : Bytes) → first_doubled (names_of d) ≡ None → 0 < length d.outputs → first_undriven_name d ≡ Some name → single d ≡ Err (undriven name)
undriven_name d name names some found =
    ap (λ o. unless_refused o doubled (with_output d)) names
    ∙ ap (λ none. cond none (Err no_output) (driven d)) (ne_eqb (length d.outputs) 0 (λ e. omega (arith, e, some)))
    ∙ ap (λ o. unless_refused o undriven (grounded (numbered d))) found
