-- The flat net of a text that is read is sound.
use Rattle.std.proofs.Common.{◌≡◌, ◌≢◌, ℕ, suc, ◌+◌, ◌-◌, ◌^◌, ◌<◌, ◌≤◌, false, List, [], ◌∷◌, ◌++◌, map, length, get_or, codes, decimal, All, AllPairs, refl, ap, sym, subst, inl, inr, arith}
use Rattle.std.proofs.lemmas.Fmt.{length-decimal-le}
use Rattle.std.proofs.lemmas.List.{length-map}
use Rattle.std.proofs.lemmas.List.Elements.{All-nil, All-cons, All-from_recursion}
use Rattle.semantics.specs.declared.mark.Mark.{Mark}
use Rattle.semantics.specs.declared.mark.Mark.TheVariants.{One}
use Rattle.semantics.specs.Texts.{Bytes}
use Rattle.semantics.specs.Net.{TableValue, NetValue, IsNameByte, IsName, IsTable, IsAcyclic, IsSmall, IsSound}
use Rattle.semantics.proofs.NumberedNames.{IsName-numbered}
use Rattle.blif_semantics.specs.Lines.{Statement, logical_lines, statements}
use Rattle.blif_semantics.specs.Named.{IsNamedTable}
use Rattle.hierarchy_semantics.specs.Models.{Part, names_part, subckt_part, BlifModel, Hierarchy, main_of, model_named}
use Rattle.hierarchy_semantics.specs.Driven.{Source, by_input, by_output, Driven, bound_outputs, part_driven, names_driven, part_reads}
use Rattle.hierarchy_semantics.specs.Refusals.{is_taken}
use Rattle.hierarchy_semantics.specs.Places.{Path, use_at, model_at, IsUse, IsPath}
use Rattle.hierarchy_semantics.specs.Flat.{FlatItem, flat_items, place_signal, flat_name, flat_table, tables_from, flat_net}
use Rattle.hierarchy_semantics.specs.Laws.{IsFlattened}
use Rattle.hierarchy_semantics.proofs.Members.{IsIn, in_left, in_right, from_map, from_filter, none_found, each_in, named_in}
use Rattle.hierarchy_semantics.proofs.Parts.{in_get, in_flat_map, no_part, from_parts, PartSource, is_table, is_output, part_source, no_input_part}
use Rattle.hierarchy_semantics.proofs.Placed.{flat_placed, IsGood, fit_at, used_model}
use Rattle.hierarchy_semantics.proofs.Some.{signal_within}
use Rattle.hierarchy_semantics.proofs.Accepted.{HasNoRefusal, no_fault, read_parts, good_reading, main_read}
use Rattle.hierarchy_semantics.proofs.Flattened.{net_is, net_acyclic, net_small}
use Rattle.hierarchy_semantics.proofs.Distinct.{Distinct, distinct_names, pairs_differ}
use Rattle.hierarchy_semantics.proofs.FlatNames.{own_names, names_of_tables, distinct_signals, own_driven}
use Rattle.hierarchy_semantics.proofs.Formed.{IsFormed, formed, HasFormedParts, formed_named}

all_from : {X : Type 0} (P : X → Type 0) (xs : List X) → ((x : X) → IsIn x xs → P x) → All P xs
all_from P xs f = All-from_recursion P xs (each_in P xs f)

-- ---- names

name_longer : (b : ℕ) (name : Bytes) → IsNameByte b → length name < 1023 → IsName name → IsName (b ∷ name)
name_longer b name byte short h = record {
  not_empty = omega arith;
  short = omega (arith, short);
  printable = All-cons IsNameByte b name byte h.printable;
  ending = λ e.
      let some = h.not_empty in
      let place : suc (length name) - 1 ≡ suc (length name - 1) = omega (arith, some) in
      let last : get_or name (length name - 1) 0 ≡ 92 = rw place at e in
      h.ending last;
}

numbered_is_name : (n : ℕ) → n < 2 ^ 64 → IsName (codes "$u" ++ decimal n)
numbered_is_name n small =
    let digits : length (decimal n) ≤ 20 = length-decimal-le 20 n (omega arith) (omega arith) (omega arith) in
    name_longer 36 (117 ∷ decimal n) (omega arith, omega arith, omega arith) (omega (arith, digits)) (IsName-numbered 117 n (omega arith, omega arith, omega arith) small)

driven_named : (h : Hierarchy) (m : BlifModel) → HasFormedParts m → (n : ℕ) (p : Part) (d : Driven) → IsIn p m.parts → IsIn d (part_driven h n p) → IsName d.name
driven_named h m formed n (names_part t) d inside (inl e) = subst (λ (d : Driven). IsName d.name) e (formed.tables t inside).named
driven_named h m formed n (names_part t) d inside (inr none) = absurd none
driven_named h m formed n (subckt_part c) d inside driven =
    let from = from_map (λ b. record { name = b.actual; source = by_output n b.formal }) d (bound_outputs h c) driven in
    let bound = (from_filter _ from.from c.bindings from.inside).0 in
    subst (λ (d : Driven). IsName d.name) from.is (formed.actuals c inside from.from bound)

label_named : (number : ℕ) (item : FlatItem) (path : Path) → item.path ≡ path → number < 2 ^ 64 → IsName item.driven.name
    → IsName (elim path [ [] ↦ item.driven.name | n ∷ up ↦ codes "$u" ++ decimal number ])
label_named number item [] is small named = named
label_named number item (n ∷ up) is small named = numbered_is_name number small

-- ---- tables

source_formed : (h : Hierarchy) (m : BlifModel) → HasFormedParts m → (n : ℕ) (p : Part) (s : Source) (label : Bytes) (path : Path) → IsIn p m.parts → PartSource h n p s → IsName label
    → IsTable (flat_table h label path s)
source_formed h m formed n p s label path inside (is_table t) named =
    let table : IsNamedTable t = formed.tables t inside in
    record { named = named; widths = subst (λ k. All (λ marks. length marks ≡ k) t.rows) (sym (length-map t.pins (place_signal h path))) table.widths; plane = table.plane }
source_formed h m formed n p s label path inside (is_output c formal driven) named =
    record { named = named; widths = All-cons (λ (marks : List Mark). length marks ≡ 1) (One ∷ []) [] refl (All-nil _); plane = λ e. refl }

-- what is known of each flat table
record IsSoundItem (h : Hierarchy) (count : ℕ) (item : FlatItem) : Type 0 where
  named : IsName item.driven.name
  table : (label : Bytes) → IsName label → IsTable (flat_table h label item.path item.driven.source)
  pins : (label : Bytes) → All (λ s. s < count) (flat_table h label item.path item.driven.source).pins
  no_input : (i : ℕ) → item.driven.source ≡ by_input i → ⊥

record AreSound (h : Hierarchy) (count number : ℕ) (items : List FlatItem) : Type 0 where
  formed : All IsTable (tables_from h number items)
  pins : All (λ t. All (λ s. s < count) t.pins) (tables_from h number items)

sound_tables : (h : Hierarchy) (count number : ℕ) (items : List FlatItem) → number + length items < 2 ^ 64 → ((item : FlatItem) → IsIn item items → IsSoundItem h count item)
    → AreSound h count number items
sound_tables h count number [] small each = record { formed = All-nil IsTable; pins = All-nil (λ t. All (λ s. s < count) t.pins) }
sound_tables h count number (item ∷ items) small each =
    let rest = sound_tables h count (number + 1) items (omega (arith, small)) (λ i inside. each i (inr inside)) in
    let here = each item (inl refl) in
    let label : Bytes = flat_name number item in
    let t : TableValue = flat_table h label item.path item.driven.source in
    record {
      formed = All-cons IsTable t (tables_from h (number + 1) items) (here.table label (label_named number item item.path refl (omega (arith, small)) here.named)) rest.formed;
      pins = All-cons (λ (t : TableValue). All (λ s. s < count) t.pins) t (tables_from h (number + 1) items) (here.pins label) rest.pins;
    }

signals_of : (h : Hierarchy) → IsGood h → (path : Path) → IsPath h path → (names : List Bytes) → ((name : Bytes) → IsIn name names → IsIn name (names_driven h (model_at h path)))
    → All (λ s. s < length (main_of h).inputs + length (flat_net h).tables) (map (place_signal h path) names)
signals_of h good path path_is names driven =
    all_from (λ s. s < length (main_of h).inputs + length (flat_net h).tables) (map (place_signal h path) names)
    (λ s inside.
    let from = from_map (place_signal h path) s names inside in
    subst (λ s. s < length (main_of h).inputs + length (flat_net h).tables) from.is (signal_within h good path from.from path_is (driven from.from from.inside)))

source_pins : (h : Hierarchy) → IsGood h → (path : Path) → IsPath h path → (n : ℕ) (p : Part) (s : Source) → n < length (model_at h path).parts → get_or (model_at h path).parts n no_part ≡ p
    → PartSource h n p s → (label : Bytes)
    → All (λ s. s < length (main_of h).inputs + length (flat_net h).tables) (flat_table h label path s).pins
source_pins h good path path_is n p s within is (is_table t) label =
    let m : BlifModel = model_at h path in
    signals_of h good path path_is t.pins
    (λ pin inside. (fit_at h good path).reads pin (in_left pin _ m.outputs (in_flat_map (part_reads h) (names_part t) pin m.parts (in_get m.parts n no_part (names_part t) within is) inside)))
source_pins h good path path_is n p s within is (is_output c formal driven) label =
    let use_is : IsUse (model_at h path) n c = (within, is) in
    let inner : IsPath h (n ∷ path) = (path_is, (c, use_is)) in
    let listed : IsIn formal (model_at h (n ∷ path)).outputs
    = subst (λ (k : BlifModel). IsIn formal k.outputs) (used_model h path n c use_is) (named_in (model_named h c.model).outputs formal driven) in
    signals_of h good (n ∷ path) inner (formal ∷ [])
    (λ name inside. elim inside [
      | inl e ↦ subst (λ w. IsIn w (names_driven h (model_at h (n ∷ path)))) e ((fit_at h good (n ∷ path)).reads formal (in_right formal _ (model_at h (n ∷ path)).outputs listed))
      | inr none ↦ absurd none
    ])

formed_at : (h : Hierarchy) → IsIn (main_of h) h → ((m : BlifModel) → IsIn m h → IsFormed m) → (path : Path) → HasFormedParts (model_at h path)
formed_at h inside all [] = let main = all (main_of h) inside in record { tables = main.tables; actuals = main.actuals }
formed_at h inside all (n ∷ up) = formed_named h all (use_at (model_at h up) n).model

sound_item : (h : Hierarchy) → IsGood h → IsIn (main_of h) h → ((m : BlifModel) → IsIn m h → IsFormed m) → (item : FlatItem) → IsIn item (flat_items h)
    → IsSoundItem h (length (main_of h).inputs + length (flat_net h).tables) item
sound_item h good main all item inside =
    let place = flat_placed h item inside in
    let m : BlifModel = model_at h item.path in
    let from = from_parts (part_driven h) 0 m.parts item.driven place.by_part in
    let number : 0 + from.i ≡ from.i = omega arith in
    let driven : IsIn item.driven (part_driven h from.i from.part) = subst (λ k. IsIn item.driven (part_driven h k from.part)) number from.inside in
    let source = part_source h from.i from.part item.driven driven in
    let part_in : IsIn from.part m.parts = in_get m.parts from.i no_part from.part from.within from.is in
    let parts = formed_at h main all item.path in
    record {
      named = driven_named h m parts from.i from.part item.driven part_in driven;
      table = λ label named. source_formed h m parts from.i from.part item.driven.source label item.path part_in source named;
      pins = source_pins h good item.path place.path from.i from.part item.driven.source from.within from.is source;
      no_input = λ i e. no_input_part h from.i i from.part item.driven.source source e;
    }

-- ---- the whole net

table_count : (h : Hierarchy) (number : ℕ) (items : List FlatItem) → length (tables_from h number items) ≡ length items
table_count h number [] = refl
table_count h number (item ∷ items) = ap suc (table_count h (number + 1) items)

few_items : (h : Hierarchy) → IsSmall (flat_net h) → length (flat_items h) < 2 ^ 64
unfolding flat_net
few_items h small = omega (arith, small.tables, table_count h 0 (flat_items h))

main_names : (h : Hierarchy) → IsIn (main_of h) h → names_driven h (main_of h) ≡ (main_of h).inputs ++ own_names (flat_items h)
unfolding flat_items
main_names [] inside = absurd inside
main_names (m ∷ h) inside = own_driven (m ∷ h) (length h) m

names_differ : (h : Hierarchy) → HasNoRefusal h → IsIn (main_of h) h → length (flat_items h) < 2 ^ 64 → ((item : FlatItem) → IsIn item (flat_items h) → (i : ℕ) → item.driven.source ≡ by_input i → ⊥)
    → AllPairs ◌≢◌ ((main_of h).inputs ++ map (λ t. t.name) (tables_from h 0 (flat_items h)))
names_differ h none main small no_input =
    let inputs : List Bytes = (main_of h).inputs in
    let items : List FlatItem = flat_items h in
    let same = main_names h main in
    let distinct : Distinct (inputs ++ own_names items) = subst Distinct same (distinct_names (names_driven h (main_of h)) (no_fault h (main_of h) none main).once) in
    let free : ((name : Bytes) → IsIn name (inputs ++ own_names items) → is_taken name ≡ false) =
    λ name inside. none_found is_taken name (names_driven h (main_of h)) none.free (subst (λ l. IsIn name l) (sym same) inside) in
    pairs_differ (inputs ++ map (λ t. t.name) (tables_from h 0 items))
    (subst (λ names. Distinct (inputs ++ names)) (sym (names_of_tables h 0 items no_input)) (distinct_signals inputs items small distinct free))

flat_sound : (h : Hierarchy) → IsGood h → HasNoRefusal h → IsIn (main_of h) h → ((m : BlifModel) → IsIn m h → IsFormed m) → IsSmall (flat_net h)
    → IsAcyclic (length (flat_net h).inputs) (flat_net h).tables → IsSound (flat_net h)
unfolding flat_net
flat_sound h good none main all small acyclic =
    let each = sound_item h good main all in
    let few = few_items h small in
    let tables = sound_tables h (length (main_of h).inputs + length (flat_net h).tables) 0 (flat_items h) (omega (arith, few)) each in
    let whole = all (main_of h) main in
    let fault = no_fault h (main_of h) none main in
    record {
      model_named = whole.name;
      inputs_named = whole.inputs;
      tables_formed = tables.formed;
      names_differ = names_differ h none main few (λ item inside. (each item inside).no_input);
      has_output = omega (arith, fault.some_output, length-map (main_of h).outputs (place_signal h []));
      outputs_are_signals = signals_of h good [] tt (main_of h).outputs (λ name inside. (fit_at h good []).reads name (in_right name _ (main_of h).outputs inside));
      pins_are_signals = tables.pins;
      acyclic = acyclic;
    }

pub net_sound : (text : Bytes) (most : ℕ) (h : Hierarchy) (N : NetValue) → IsFlattened text most h N → IsSound N
net_sound text most h N is =
    let read = read_parts text most h is.read in
    let good = good_reading text most h read in
    let lines : List Statement = statements (logical_lines text) in
    let all : ((m : BlifModel) → IsIn m h → IsFormed m) = λ m inside. formed lines read.right m (subst (λ l. IsIn m l) (sym read.is) inside) in
    let same = net_is text most h N is in
    subst IsSound (sym same)
    (flat_sound h good read.none (main_read text most h read) all (subst IsSmall same (net_small text most h N is))
    (subst (λ (M : NetValue). IsAcyclic (length M.inputs) M.tables) same (net_acyclic text most h N is)))
