-- The tables that are made model by model are those of the flat net.
use Rattle.std.proofs.Common.{◌≡◌, ℕ, zero, suc, ◌+◌, ◌<◌, ◌≤◌, Bool, true, false, List, [], ◌∷◌, ◌++◌, map, length, get_or, append_assoc, append-nil, refl, ap, sym, subst, ◌∙◌, inl, inr, arith}
use Rattle.std.proofs.lemmas.Bool.{false≢true}
use Rattle.std.proofs.lemmas.List.{map-append, length-append}
use Rattle.semantics.specs.Texts.{Bytes}
use Rattle.semantics.specs.Net.{TableValue}
use Rattle.blif_semantics.specs.Tables.{NamedTable}
use Rattle.hierarchy_semantics.specs.Models.{Binding, Subcircuit, Part, names_part, subckt_part, BlifModel, Hierarchy, main_of, model_named, part_uses, uses_of}
use Rattle.hierarchy_semantics.specs.Driven.{Driven, by_table, by_output, bound_outputs, over_parts, inputs_driven, part_driven, names_driven}
use Rattle.hierarchy_semantics.specs.Refusals.{is_model_grounded}
use Rattle.hierarchy_semantics.specs.Places.{Path, use_of, model_at, IsUse}
use Rattle.hierarchy_semantics.specs.Flat.{FlatItem, items_at, part_items, items_of, flat_items, table_signal, place_signal, flat_name, flat_table, tables_from, flat_net}
use Rattle.hierarchy_semantics.proofs.Members.{IsIn, in_right, in_append}
use Rattle.hierarchy_semantics.proofs.Parts.{no_part, in_flat_map}
use Rattle.hierarchy_semantics.proofs.Placed.{IsGood, fit_at, used_model}
use Rattle.hierarchy_semantics.proofs.Distinct.{Distinct, distinct_right, distinct_names}
use Rattle.hier_flat.specs.Flattening.{label, table_made, buffer_made, used_signal, main_signal, part_signals, with_buffers, with_part, with_parts, with_model}
use Rattle.hier_flat.proofs.FlatSizes.{grounded_inside, weight_level}
use Rattle.hier_flat.proofs.FlatPlaces.{EndsIn, ends_before, not_itself, one_end, own_path, model_ends, map_same_in, HaveSizes, Stands, model_found}
use Rattle.hier_flat.proofs.FlatFrames.{used_framed, main_framed}

-- ---- the items that are left

record StandsFrom (h : Hierarchy) (l number : ℕ) (path : Path) (i : ℕ) (parts : List Part) : Type 0 where
  before : List FlatItem
  after : List FlatItem
  split : flat_items h ≡ before ++ (over_parts (part_items h (items_of h l) path) i parts ++ after)
  size : length before ≡ number
  apart : (item : FlatItem) → IsIn item before → (n : ℕ) → i ≤ n → EndsIn (n ∷ path) item.path → ⊥

from_first : (h : Hierarchy) (l number : ℕ) (path : Path) (m : BlifModel) → Stands h (suc l) number path m → StandsFrom h l number path 0 m.parts
from_first h l number path m stands = record {
  before = stands.before;
  after = stands.after;
  split = stands.split;
  size = stands.size;
  apart = λ item inside n least ends. stands.apart item inside (ends_before n path item.path ends);
}

-- a part has no item of a later part's path
part_apart : (h : Hierarchy) (l : ℕ) (path : Path) (i : ℕ) (p : Part) (item : FlatItem) (n : ℕ) → IsIn item (part_items h (items_of h l) path i p) → i + 1 ≤ n → EndsIn (n ∷ path) item.path → ⊥
part_apart h l path i (names_part t) item n inside least ends = not_itself n path (subst (EndsIn (n ∷ path)) (own_path path (part_driven h i (names_part t)) item inside) ends)
part_apart h l path i (subckt_part c) item n inside least ends =
    elim (in_append item (items_of h l (i ∷ path) (model_named h c.model)) (items_at path (part_driven h i (subckt_part c))) inside) [
      | inl below ↦ let same = one_end i n path item.path (model_ends h l (i ∷ path) (model_named h c.model) item below) ends in omega (arith, same, least)
      | inr own ↦ not_itself n path (subst (EndsIn (n ∷ path)) (own_path path (part_driven h i (subckt_part c)) item own) ends)
    ]

from_next : (h : Hierarchy) (l number : ℕ) (path : Path) (i : ℕ) (p : Part) (parts : List Part) → StandsFrom h l number path i (p ∷ parts)
    → StandsFrom h l (number + length (part_items h (items_of h l) path i p)) path (i + 1) parts
from_next h l number path i p parts from =
    let here : List FlatItem = part_items h (items_of h l) path i p in
    let later : List FlatItem = over_parts (part_items h (items_of h l) path) (i + 1) parts in
    record {
      before = from.before ++ here;
      after = from.after;
      split = from.split ∙ ap (λ items. from.before ++ items) (append_assoc here later from.after) ∙ sym (append_assoc from.before here (later ++ from.after));
      size = length-append from.before here ∙ ap (λ k. k + length here) from.size;
      apart = λ item inside n least ends.
          elim (in_append item from.before here inside) [
            | inl earlier ↦ from.apart item earlier n (omega (arith, least)) ends
            | inr own ↦ part_apart h l path i p item n own least ends
          ];
    }

stands_inside : (h : Hierarchy) (l number : ℕ) (path : Path) (i : ℕ) (c : Subcircuit) (parts : List Part) → StandsFrom h l number path i (subckt_part c ∷ parts)
    → Stands h l number (i ∷ path) (model_named h c.model)
stands_inside h l number path i c parts from =
    let below : List FlatItem = items_of h l (i ∷ path) (model_named h c.model) in
    let own : List FlatItem = items_at path (part_driven h i (subckt_part c)) in
    let later : List FlatItem = over_parts (part_items h (items_of h l) path) (i + 1) parts in
    record {
      before = from.before;
      after = own ++ (later ++ from.after);
      split = from.split ∙ ap (λ items. from.before ++ items) (append_assoc (below ++ own) later from.after ∙ append_assoc below own (later ++ from.after));
      size = from.size;
      apart = λ item inside ends. from.apart item inside i (omega arith) ends;
    }

-- ---- the signals of a model that stands in the list

distinct_parts : (h : Hierarchy) → IsGood h → (path : Path) → Distinct (map (λ d. d.name) (over_parts (part_driven h) 0 (model_at h path).parts))
distinct_parts h good path =
    let m : BlifModel = model_at h path in
    let inputs : List Driven = inputs_driven 0 m.inputs in
    let parts : List Driven = over_parts (part_driven h) 0 m.parts in
    distinct_right (map (λ (d : Driven). d.name) inputs) (map (λ (d : Driven). d.name) parts)
    (subst Distinct (map-append (λ (d : Driven). d.name) inputs parts) (distinct_names (names_driven h m) (fit_at h good path).once))

sizes_inside : (h : Hierarchy) (l : ℕ) (m : BlifModel) → is_model_grounded h (suc l) m ≡ true → suc l ≤ length h → HaveSizes h l m.parts
sizes_inside h l m grounded within c inside =
    weight_level h _ l (length h) (model_named h c.model) (grounded_inside h l m grounded c (in_flat_map part_uses (subckt_part c) c m.parts inside (inl refl))) (omega (arith, within))

signals_found : (h : Hierarchy) → IsGood h → (l number : ℕ) (path : Path) (m : BlifModel) → m ≡ model_at h path → is_model_grounded h l m ≡ true → l ≤ length h → Stands h l number path m
    → map (λ d. table_signal h path d.name) (over_parts (part_driven h) 0 m.parts) ≡ part_signals h (length (main_of h).inputs + number) m.parts
signals_found h good zero number path m same grounded within stands = absurd (false≢true grounded)
signals_found h good (suc l) number path m same grounded within stands =
    model_found h l number path m stands
    (subst (λ (k : BlifModel). Distinct (map (λ d. d.name) (over_parts (part_driven h) 0 k.parts))) (sym same) (distinct_parts h good path))
    (sizes_inside h l m grounded within)

-- ---- lists of tables

tables_append : (h : Hierarchy) (k : ℕ) (xs ys : List FlatItem) → tables_from h k (xs ++ ys) ≡ tables_from h k xs ++ tables_from h (k + length xs) ys
tables_append h k [] ys = let same : k ≡ k + 0 = omega arith in ap (λ j. tables_from h j ys) same
tables_append h k (x ∷ xs) ys =
    let same : (k + 1) + length xs ≡ k + suc (length xs) = omega arith in
    ap (λ rest. flat_table h (flat_name k x) x.path x.driven.source ∷ rest) (tables_append h (k + 1) xs ys ∙ ap (λ j. tables_from h (k + 1) xs ++ tables_from h j ys) same)

pub tables_length : (h : Hierarchy) (k : ℕ) (items : List FlatItem) → length (tables_from h k items) ≡ length items
tables_length h k [] = refl
tables_length h k (x ∷ items) = ap suc (tables_length h (k + 1) items)

-- the tables before, with those of some items
abbrev Added : Hierarchy → List TableValue → List FlatItem → List TableValue
Added h tables items = tables ++ tables_from h (length tables) items

added_length : (h : Hierarchy) (tables : List TableValue) (items : List FlatItem) → length (Added h tables items) ≡ length tables + length items
added_length h tables items = length-append tables (tables_from h (length tables) items) ∙ ap (λ k. length tables + k) (tables_length h (length tables) items)

added_more : (h : Hierarchy) (tables : List TableValue) (xs ys : List FlatItem) → Added h (Added h tables xs) ys ≡ Added h tables (xs ++ ys)
added_more h tables xs ys =
    ap (λ k. Added h tables xs ++ tables_from h k ys) (added_length h tables xs)
    ∙ append_assoc tables (tables_from h (length tables) xs) (tables_from h (length tables + length xs) ys)
    ∙ ap (λ more. tables ++ more) (sym (tables_append h (length tables) xs ys))

-- ---- one table, and buffers

abbrev is_main : Path → Bool
is_main [] = true
is_main (n ∷ up) = false

label_is : (path : Path) (d : Driven) (number : ℕ) → label (is_main path) d.name number ≡ flat_name number (record { path = path; driven = d })
label_is [] d number = refl
label_is (n ∷ up) d number = refl

map_same : {X Y : Type 0} (f g : X → Y) (xs : List X) → ((x : X) → f x ≡ g x) → map f xs ≡ map g xs
map_same f g xs same = map_same_in f g xs (λ x inside. same x)

table_is : (h : Hierarchy) (path : Path) (signal : Bytes → ℕ) (t : NamedTable) (number : ℕ) → ((name : Bytes) → signal name ≡ place_signal h path name)
    → table_made (is_main path) signal t number ≡ flat_table h (flat_name number (record { path = path; driven = record { name = t.name; source = by_table t } })) path (by_table t)
table_is h path signal t number same =
    ap (λ (name : Bytes). record { name = name; pins = map signal t.pins; rows = t.rows; plane = t.plane }) (label_is path (record { name = t.name; source = by_table t }) number)
    ∙ ap
    (λ (pins : List ℕ). record { name = flat_name number (record { path = path; driven = record { name = t.name; source = by_table t } }); pins = pins; rows = t.rows; plane = t.plane })
    (map_same signal (place_signal h path) t.pins same)

buffer_is : (h : Hierarchy) (path : Path) (n pin : ℕ) (b : Binding) (number : ℕ) → pin ≡ place_signal h (n ∷ path) b.formal
    → buffer_made (is_main path) pin b.actual number
    ≡ flat_table h (flat_name number (record { path = path; driven = record { name = b.actual; source = by_output n b.formal } })) path (by_output n b.formal)
buffer_is h path n pin b number same =
    ap (λ (name : Bytes). buffer_made true pin name number) (label_is path (record { name = b.actual; source = by_output n b.formal }) number)
    ∙ ap (λ s. buffer_made true s (flat_name number (record { path = path; driven = record { name = b.actual; source = by_output n b.formal } })) number) same

buffers_are : (h : Hierarchy) (path : Path) (n : ℕ) (inside : Bytes → ℕ) (bindings : List Binding) (tables : List TableValue) → ((name : Bytes) → inside name ≡ place_signal h (n ∷ path) name)
    → with_buffers (is_main path) inside bindings tables ≡ Added h tables (items_at path (map (λ b. record { name = b.actual; source = by_output n b.formal }) bindings))
buffers_are h path n inside [] tables same = sym (append-nil tables)
buffers_are h path n inside (b ∷ bindings) tables same =
    let driven : Driven = record { name = b.actual; source = by_output n b.formal } in
    let item : FlatItem = record { path = path; driven = driven } in
    let rest : List FlatItem = items_at path (map (λ b. record { name = b.actual; source = by_output n b.formal }) bindings) in
    ap (λ t. with_buffers (is_main path) inside bindings (tables ++ t ∷ [])) (buffer_is h path n (inside b.formal) b (length tables) (same b.formal))
    ∙ buffers_are h path n inside bindings (Added h tables (item ∷ [])) same
    ∙ added_more h tables (item ∷ []) rest

-- ---- models

-- the model stands in the list behind `number` items, and its names have the signals of its places
record Reaches (h : Hierarchy) (l number : ℕ) (path : Path) (m : BlifModel) (signal : Bytes → ℕ) : Type 0 where
  model : m ≡ model_at h path
  grounded : is_model_grounded h l m ≡ true
  levels : l ≤ length h
  stands : Stands h l number path m
  signals : (name : Bytes) → signal name ≡ place_signal h path name

abbrev Makes : Hierarchy → ℕ → Type 0
Makes h l = (path : Path) (m : BlifModel) (signal : Bytes → ℕ) (tables : List TableValue) → Reaches h l (length tables) path m signal
    → with_model h (length (main_of h).inputs) l (is_main path) signal m tables ≡ Added h tables (items_of h l path m)

at_end : (done : List Part) (p : Part) (parts : List Part) → (length done < length (done ++ p ∷ parts)) × (get_or (done ++ p ∷ parts) (length done) no_part ≡ p)
at_end [] p parts = (omega arith, refl)
at_end (q ∷ done) p parts = let rest = at_end done p parts in (let within = rest.0 in omega (arith, within), rest.1)

in_middle : (done : List Part) (p : Part) (parts : List Part) → IsIn p (done ++ p ∷ parts)
in_middle done p parts = in_right p done (p ∷ parts) (inl refl)

reaches_inside : (h : Hierarchy) → IsGood h → (l number : ℕ) (path : Path) (signal : Bytes → ℕ) (done : List Part) (c : Subcircuit) (parts : List Part) (m : BlifModel)
    → m ≡ model_at h path → m.parts ≡ done ++ subckt_part c ∷ parts → is_model_grounded h (suc l) m ≡ true → suc l ≤ length h → ((name : Bytes) → signal name ≡ place_signal h path name)
    → StandsFrom h l number path (length done) (subckt_part c ∷ parts)
    → Reaches h l number (length done ∷ path) (model_named h c.model) (used_signal h signal (length (main_of h).inputs + number) c)
reaches_inside h good l number path signal done c parts m same split grounded within signals from =
    let i : ℕ = length done in
    let at = at_end done (subckt_part c) parts in
    let there : IsUse m i c = subst (λ ps. (i < length ps) × (get_or ps i no_part ≡ subckt_part c)) (sym split) at in
    let use_is : IsUse (model_at h path) i c = subst (λ k. IsUse k i c) same there in
    let model : model_named h c.model ≡ model_at h (i ∷ path) = used_model h path i c use_is in
    let used : IsIn c (uses_of m) =
    in_flat_map part_uses (subckt_part c) c m.parts (subst (λ ps. IsIn (subckt_part c) ps) (sym split) (in_middle done (subckt_part c) parts)) (inl refl) in
    let below : is_model_grounded h l (model_named h c.model) ≡ true = grounded_inside h l m grounded c used in
    let less : l ≤ length h = omega (arith, within) in
    let stands : Stands h l number (i ∷ path) (model_named h c.model) = stands_inside h l number path i c parts from in
    record {
      model = model;
      grounded = below;
      levels = less;
      stands = stands;
      signals = used_framed h i path signal c (length (main_of h).inputs + number) model (ap use_of use_is.1) signals
          (signals_found h good l number (i ∷ path) (model_named h c.model) model below less stands);
    }

part_made : (h : Hierarchy) → IsGood h → (l : ℕ) (path : Path) (signal : Bytes → ℕ) (done : List Part) (p : Part) (parts : List Part) (m : BlifModel) (tables : List TableValue)
    → m ≡ model_at h path → m.parts ≡ done ++ p ∷ parts → is_model_grounded h (suc l) m ≡ true → suc l ≤ length h → ((name : Bytes) → signal name ≡ place_signal h path name)
    → StandsFrom h l (length tables) path (length done) (p ∷ parts) → Makes h l
    → with_part h (length (main_of h).inputs) (with_model h (length (main_of h).inputs) l false) (is_main path) signal p tables ≡ Added h tables (part_items h (items_of h l) path (length done) p)
part_made h good l path signal done (names_part t) parts m tables same split grounded within signals from makes = ap (λ made. tables ++ made ∷ []) (table_is h path signal t (length tables) signals)
part_made h good l path signal done (subckt_part c) parts m tables same split grounded within signals from makes =
    let n : ℕ = length (main_of h).inputs in
    let i : ℕ = length done in
    let inside : (Bytes → ℕ) = used_signal h signal (n + length tables) c in
    let reaches = reaches_inside h good l (length tables) path signal done c parts m same split grounded within signals from in
    let below : List FlatItem = items_of h l (i ∷ path) (model_named h c.model) in
    ap (λ ts. with_buffers (is_main path) inside (bound_outputs h c) ts) (makes (i ∷ path) (model_named h c.model) inside tables reaches)
    ∙ buffers_are h path i inside (bound_outputs h c) (Added h tables below) reaches.signals
    ∙ added_more h tables below (items_at path (part_driven h i (subckt_part c)))

parts_made : (h : Hierarchy) → IsGood h → (l : ℕ) (path : Path) (signal : Bytes → ℕ) (done parts : List Part) (m : BlifModel) (tables : List TableValue)
    → m ≡ model_at h path → m.parts ≡ done ++ parts → is_model_grounded h (suc l) m ≡ true → suc l ≤ length h → ((name : Bytes) → signal name ≡ place_signal h path name)
    → StandsFrom h l (length tables) path (length done) parts → Makes h l
    → with_parts h (length (main_of h).inputs) (with_model h (length (main_of h).inputs) l false) (is_main path) signal parts tables
    ≡ Added h tables (over_parts (part_items h (items_of h l) path) (length done) parts)
parts_made h good l path signal done [] m tables same split grounded within signals from makes = sym (append-nil tables)
parts_made h good l path signal done (p ∷ parts) m tables same split grounded within signals from makes =
    let n : ℕ = length (main_of h).inputs in
    let i : ℕ = length done in
    let here : List FlatItem = part_items h (items_of h l) path i p in
    let number : length (done ++ p ∷ []) ≡ i + 1 = length-append done (p ∷ []) in
    let rest = from_next h l (length tables) path i p parts from in
    let size : length tables + length here ≡ length (Added h tables here) = sym (added_length h tables here) in
    let next : StandsFrom h l (length (Added h tables here)) path (length (done ++ p ∷ [])) parts =
    subst (λ k. StandsFrom h l (length (Added h tables here)) path k parts) (sym number) (subst (λ k. StandsFrom h l k path (i + 1) parts) size rest) in
    ap (λ ts. with_parts h n (with_model h n l false) (is_main path) signal parts ts) (part_made h good l path signal done p parts m tables same split grounded within signals from makes)
    ∙ parts_made h good l path signal (done ++ p ∷ []) parts m (Added h tables here) same (split ∙ sym (append_assoc done (p ∷ []) parts)) grounded within signals next makes
    ∙ ap (λ k. Added h (Added h tables here) (over_parts (part_items h (items_of h l) path) k parts)) number
    ∙ added_more h tables here (over_parts (part_items h (items_of h l) path) (i + 1) parts)

model_made : (h : Hierarchy) → IsGood h → (l : ℕ) → Makes h l
model_made h good zero path m signal tables reaches = absurd (false≢true reaches.grounded)
model_made h good (suc l) path m signal tables reaches =
    parts_made h good l path signal [] m.parts m tables reaches.model refl reaches.grounded reaches.levels reaches.signals (from_first h l (length tables) path m reaches.stands) (model_made h good l)

-- ---- the flat net

main_reached : (h : Hierarchy) → IsGood h → Reaches h (length h) 0 [] (main_of h) (main_signal h)
unfolding flat_items
main_reached h good =
    let stands : Stands h (length h) 0 [] (main_of h) = record {
      before = [];
      after = [];
      split = sym (append-nil (items_of h (length h) [] (main_of h)));
      size = refl;
      apart = λ item inside ends. absurd inside;
    } in
    let no_more : length (main_of h).inputs + 0 ≡ length (main_of h).inputs = omega arith in
    record {
      model = refl;
      grounded = good.grounded;
      levels = omega arith;
      stands = stands;
      signals = main_framed h (signals_found h good (length h) 0 [] (main_of h) refl good.grounded (omega arith) stands ∙ ap (λ k. part_signals h k (main_of h).parts) no_more);
    }

pub tables_made : (h : Hierarchy) → IsGood h → with_model h (length (main_of h).inputs) (length h) true (main_signal h) (main_of h) [] ≡ (flat_net h).tables
unfolding flat_net flat_items
tables_made h good = model_made h good (length h) [] (main_of h) (main_signal h) [] (main_reached h good)

pub outputs_made : (h : Hierarchy) → IsGood h → map (main_signal h) (main_of h).outputs ≡ (flat_net h).outputs
unfolding flat_net
outputs_made h good = map_same (main_signal h) (place_signal h []) (main_of h).outputs (main_reached h good).signals
