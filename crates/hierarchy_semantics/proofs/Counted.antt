-- What the flat tables count is counted over the statements.
use Rattle.std.proofs.Common.{◌≡◌, ℕ, zero, suc, ◌+◌, ◌*◌, not, leb, cond, List, [], ◌∷◌, map, length, sum_by, refl, ap, sym, ◌∙◌, inl, inr, arith}
use Rattle.std.proofs.lemmas.List.{length-map}
use Rattle.std.proofs.lemmas.List.Sums.{sum_by-cons, sum_by-append}
use Rattle.semantics.specs.declared.limits.TheConstants.{MOST_TABLE_PINS}
use Rattle.semantics.specs.Texts.{Bytes}
use Rattle.semantics.specs.Net.{TableValue, pin_count, row_count}
use Rattle.blif_semantics.specs.Tables.{NamedTable}
use Rattle.hierarchy_semantics.specs.Models.{Binding, Part, names_part, subckt_part, BlifModel, Hierarchy, main_of, model_named}
use Rattle.hierarchy_semantics.specs.Driven.{Source, by_input, by_table, by_output, bound_outputs, over_parts, part_driven}
use Rattle.hierarchy_semantics.specs.Places.{Path, model_at}
use Rattle.hierarchy_semantics.specs.Flat.{FlatItem, items_at, part_items, items_of, flat_items, place_signal, flat_name, flat_table, tables_from, flat_net}
use Rattle.hierarchy_semantics.specs.Counts.{Weight, part_weight, model_weight, flat_weight}
use Rattle.hierarchy_semantics.proofs.Members.{IsIn}
use Rattle.hierarchy_semantics.proofs.Parts.{from_parts, part_source, no_input_part}
use Rattle.hierarchy_semantics.proofs.Placed.{flat_placed}

abbrev source_weight : Weight → Source → ℕ
source_weight w (by_input i) = 0
source_weight w (by_table t) = w.of_table t
source_weight w (by_output n formal) = w.of_buffer

abbrev items_weight : Weight → List FlatItem → ℕ
items_weight w items = sum_by (λ item. source_weight w item.driven.source) items

-- ---- the items of a model

buffers_weight : (w : Weight) (path : Path) (n : ℕ) (bindings : List Binding)
    → items_weight w (items_at path (map (λ b. record { name = b.actual; source = by_output n b.formal }) bindings)) ≡ length bindings * w.of_buffer
buffers_weight w path n [] = omega arith
buffers_weight w path n (b ∷ bindings) =
    let rest = buffers_weight w path n bindings in
    let more : suc (length bindings) * w.of_buffer ≡ w.of_buffer + length bindings * w.of_buffer = omega arith in
    sum_by-cons (λ item. source_weight w item.driven.source) (record { path = path; driven = record { name = b.actual; source = by_output n b.formal } })
    (items_at path (map (λ b. record { name = b.actual; source = by_output n b.formal }) bindings))
    ∙ ap (λ k. w.of_buffer + k) rest
    ∙ sym more

part_counted : (h : Hierarchy) (w : Weight) (l : ℕ) (path : Path) (n : ℕ) (p : Part) → ((inner : Path) (m : BlifModel) → items_weight w (items_of h l inner m) ≡ model_weight h w l m)
    → items_weight w (part_items h (items_of h l) path n p) ≡ part_weight h w (model_weight h w l) p
part_counted h w l path n (names_part t) inner = omega arith
part_counted h w l path n (subckt_part c) inner =
    let below = inner (n ∷ path) (model_named h c.model) in
    let own = buffers_weight w path n (bound_outputs h c) in
    sum_by-append (λ item. source_weight w item.driven.source) (items_of h l (n ∷ path) (model_named h c.model)) (items_at path (part_driven h n (subckt_part c)))
    ∙ ap (λ k. k + items_weight w (items_at path (part_driven h n (subckt_part c)))) below
    ∙ ap (λ k. model_weight h w l (model_named h c.model) + k) own

parts_counted : (h : Hierarchy) (w : Weight) (l : ℕ) (path : Path) (n : ℕ) (parts : List Part) → ((inner : Path) (m : BlifModel) → items_weight w (items_of h l inner m) ≡ model_weight h w l m)
    → items_weight w (over_parts (part_items h (items_of h l) path) n parts) ≡ sum_by (part_weight h w (model_weight h w l)) parts
parts_counted h w l path n [] inner = refl
parts_counted h w l path n (p ∷ parts) inner =
    sum_by-append (λ item. source_weight w item.driven.source) (part_items h (items_of h l) path n p) (over_parts (part_items h (items_of h l) path) (n + 1) parts)
    ∙ ap (λ k. k + items_weight w (over_parts (part_items h (items_of h l) path) (n + 1) parts)) (part_counted h w l path n p inner)
    ∙ ap (λ k. part_weight h w (model_weight h w l) p + k) (parts_counted h w l path (n + 1) parts inner)
    ∙ sym (sum_by-cons (part_weight h w (model_weight h w l)) p parts)

items_counted : (h : Hierarchy) (w : Weight) (l : ℕ) (path : Path) (m : BlifModel) → items_weight w (items_of h l path m) ≡ model_weight h w l m
items_counted h w zero path m = refl
items_counted h w (suc l) path m = parts_counted h w l path 0 m.parts (items_counted h w l)

-- ---- the tables of items

no_input : (h : Hierarchy) (item : FlatItem) → IsIn item (flat_items h) → (i : ℕ) → item.driven.source ≡ by_input i → ⊥
no_input h item inside i e =
    let place = flat_placed h item inside in
    let from = from_parts (part_driven h) 0 (model_at h item.path).parts item.driven place.by_part in
    no_input_part h (0 + from.i) i from.part item.driven.source (part_source h (0 + from.i) from.part item.driven from.inside) e

-- the function of tables is the weight
record Weighs (h : Hierarchy) (g : TableValue → ℕ) (w : Weight) : Type 0 where
  table : (label : Bytes) (path : Path) (t : NamedTable) → g (flat_table h label path (by_table t)) ≡ w.of_table t
  buffer : (label : Bytes) (path : Path) (n : ℕ) (formal : Bytes) → g (flat_table h label path (by_output n formal)) ≡ w.of_buffer

table_counted : (h : Hierarchy) (g : TableValue → ℕ) (w : Weight) → Weighs h g w → (label : Bytes) (path : Path) (s : Source) → ((i : ℕ) → s ≡ by_input i → ⊥)
    → g (flat_table h label path s) ≡ source_weight w s
table_counted h g w is label path (by_input i) none = absurd (none i refl)
table_counted h g w is label path (by_table t) none = is.table label path t
table_counted h g w is label path (by_output n formal) none = is.buffer label path n formal

tables_counted : (h : Hierarchy) (g : TableValue → ℕ) (w : Weight) → Weighs h g w → (number : ℕ) (items : List FlatItem)
    → ((item : FlatItem) → IsIn item items → (i : ℕ) → item.driven.source ≡ by_input i → ⊥)
    → sum_by g (tables_from h number items) ≡ items_weight w items
tables_counted h g w is number [] none = refl
tables_counted h g w is number (item ∷ items) none =
    sum_by-cons g (flat_table h (flat_name number item) item.path item.driven.source) (tables_from h (number + 1) items)
    ∙ ap (λ k. k + sum_by g (tables_from h (number + 1) items)) (table_counted h g w is (flat_name number item) item.path item.driven.source (none item (inl refl)))
    ∙ ap (λ k. source_weight w item.driven.source + k) (tables_counted h g w is (number + 1) items (λ i inside. none i (inr inside)))
    ∙ sym (sum_by-cons (λ item. source_weight w item.driven.source) item items)

flat_tables : (h : Hierarchy) → (flat_net h).tables ≡ tables_from h 0 (flat_items h)
unfolding flat_net
flat_tables h = refl

flat_counted : (h : Hierarchy) (g : TableValue → ℕ) (w : Weight) → Weighs h g w → sum_by g (flat_net h).tables ≡ flat_weight h w
unfolding flat_items
flat_counted h g w is = ap (sum_by g) (flat_tables h) ∙ tables_counted h g w is 0 (flat_items h) (no_input h) ∙ items_counted h w (length h) [] (main_of h)

length_sum : (ts : List TableValue) → length ts ≡ sum_by (λ t. 1) ts
length_sum [] = refl
length_sum (t ∷ ts) = let more : length (t ∷ ts) ≡ 1 + length ts = omega arith in more ∙ ap (λ k. 1 + k) (length_sum ts) ∙ sym (sum_by-cons (λ t. 1) t ts)

pub tables_count : (h : Hierarchy) → length (flat_net h).tables ≡ flat_weight h (record { of_table = λ t. 1; of_buffer = 1 })
tables_count h =
    length_sum (flat_net h).tables ∙ flat_counted h (λ t. 1) (record { of_table = λ t. 1; of_buffer = 1 }) (record { table = λ label path t. refl; buffer = λ label path n formal. refl })

pub pins_count : (h : Hierarchy) → pin_count (flat_net h) ≡ flat_weight h (record { of_table = λ t. length t.pins; of_buffer = 1 })
pins_count h =
    flat_counted h (λ t. length t.pins) (record { of_table = λ t. length t.pins; of_buffer = 1 })
    (record { table = λ label path t. length-map t.pins (place_signal h path); buffer = λ label path n formal. refl })

pub rows_count : (h : Hierarchy) → row_count (flat_net h) ≡ flat_weight h (record { of_table = λ t. length t.rows; of_buffer = 1 })
rows_count h =
    flat_counted h (λ t. length t.rows) (record { of_table = λ t. length t.rows; of_buffer = 1 }) (record { table = λ label path t. refl; buffer = λ label path n formal. refl })

abbrev is_wide : ℕ → ℕ
is_wide pins = cond (not (leb pins MOST_TABLE_PINS)) 1 0

pub wide_count : (h : Hierarchy) → sum_by (λ t. is_wide (length t.pins)) (flat_net h).tables ≡ flat_weight h (record { of_table = λ t. is_wide (length t.pins); of_buffer = 0 })
wide_count h =
    flat_counted h (λ t. is_wide (length t.pins)) (record { of_table = λ t. is_wide (length t.pins); of_buffer = 0 })
    (record { table = λ label path t. ap is_wide (length-map t.pins (place_signal h path)); buffer = λ label path n formal. refl })
