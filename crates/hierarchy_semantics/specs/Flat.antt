-- The flat net of a hierarchy. Source: BLIF's `.subckt`; the names of the tables inside are this tool's own.
use Rattle.std.specs.Prelude.{ℕ, zero, suc, ◌+◌, ◌&&◌, Bool, true, List, [], ◌∷◌, ◌++◌, map, length, codes}
use Rattle.std.specs.Prelude.{bytes_eq, decimal, Option, Some, None, Result, Ok, Err}
use Rattle.std.specs.List.{position_from}
use Rattle.semantics.specs.declared.mark.Mark.TheVariants.{One}
use Rattle.semantics.specs.Texts.{Bytes}
use Rattle.semantics.specs.Net.{TableValue, NetValue, no_table, input_count, signal_names, name_of}
use Rattle.semantics.specs.Refusals.{first_ungrounded, first_limit}
use Rattle.blif_semantics.specs.Reading.{cycle, limit}
use Rattle.hierarchy_semantics.specs.Models.{Part, names_part, subckt_part, BlifModel, Hierarchy, main_of}
use Rattle.hierarchy_semantics.specs.Models.{model_named}
use Rattle.hierarchy_semantics.specs.Driven.{Source, by_input, by_table, by_output, Driven, over_parts}
use Rattle.hierarchy_semantics.specs.Driven.{part_driven, source_of}
use Rattle.hierarchy_semantics.specs.Places.{Path, use_at, model_at, actual_of}
use Rattle.hierarchy_semantics.specs.Refusals.{HierRefusal, flat}

-- what a flat table drives, and the path of the model in which it drives it
pub record FlatItem : Type 0 where
  pub path : Path
  pub driven : Driven

abbrev pub items_at : Path → List Driven → List FlatItem
items_at path driven = map (λ d. record { path = path; driven = d }) driven

-- The flat tables of a model that is used stand before the tables of the names that this use drives.
abbrev pub part_items : Hierarchy → (Path → BlifModel → List FlatItem) → Path → ℕ → Part → List FlatItem
part_items h inner path n (names_part t) = items_at path (part_driven h n (names_part t))
part_items h inner path n (subckt_part c)
    = inner (n ∷ path) (model_named h c.model) ++ items_at path (part_driven h n (subckt_part c))

-- the flat tables of a model, in the order of its statements, over `levels` levels of models
abbrev pub items_of : Hierarchy → ℕ → Path → BlifModel → List FlatItem
items_of h zero path m = []
items_of h (suc levels) path m = over_parts (part_items h (items_of h levels) path) 0 m.parts

unfoldable pub flat_items : Hierarchy → List FlatItem
flat_items h = items_of h (length h) [] (main_of h)

abbrev pub is_place : Path → Bytes → FlatItem → Bool
is_place path name item = bytes_eq item.path path && bytes_eq item.driven.name name

-- the signal of the flat table of a place
abbrev pub table_signal : Hierarchy → Path → Bytes → ℕ
table_signal h path name = elim
    (position_from (is_place path name) (length (main_of h).inputs) (flat_items h)) [ None ↦ 0 | Some s ↦ s ]

abbrev pub source_or : Source → (ℕ → ℕ) → ℕ → ℕ
source_or (by_input i) of_input otherwise = of_input i
source_or _ of_input otherwise = otherwise

-- what `of_input` says of the input that drives a name; where no input does, the number `otherwise`
abbrev pub input_or : Option Driven → (ℕ → ℕ) → ℕ → ℕ
input_or None of_input otherwise = otherwise
input_or (Some d) of_input otherwise = source_or d.source of_input otherwise

-- the signal of a place: an input of a model inside has the signal that is bound to it
abbrev pub place_signal : Hierarchy → Path → Bytes → ℕ
place_signal h [] name = input_or (source_of h (main_of h) name) (λ i. i) (table_signal h [] name)
place_signal h (n ∷ up) name =
    input_or (source_of h (model_at h (n ∷ up)) name)
    (λ i. place_signal h up (actual_of (use_at (model_at h up) n) name)) (table_signal h (n ∷ up) name)

-- the tables of the main model keep their names; every other table is named `$u` and its number
abbrev pub flat_name : ℕ → FlatItem → Bytes
flat_name number item = elim item.path [ [] ↦ item.driven.name | n ∷ up ↦ codes "$u" ++ decimal number ]

-- a table with the signals of its pins; or, for an output of a model inside, a buffer of its signal there
abbrev pub flat_table : Hierarchy → Bytes → Path → Source → TableValue
flat_table h name path (by_input i) = no_table
flat_table h name path (by_table t)
    = record { name = name; pins = map (place_signal h path) t.pins; rows = t.rows; plane = t.plane }
flat_table h name path (by_output n formal)
    = record {
      name = name;
      pins = place_signal h (n ∷ path) formal ∷ [];
      rows = (One ∷ []) ∷ [];
      plane = true;
    }

abbrev pub tables_from : Hierarchy → ℕ → List FlatItem → List TableValue
tables_from h number [] = []
tables_from h number (item ∷ items)
    = flat_table h (flat_name number item) item.path item.driven.source ∷ tables_from h (number + 1) items

unfoldable pub flat_net : Hierarchy → NetValue
flat_net h = record {
  model = (main_of h).name;
  inputs = (main_of h).inputs;
  tables = tables_from h 0 (flat_items h);
  outputs = map (place_signal h []) (main_of h).outputs;
}

-- the flat net, unless it passes a limit or, where it passes none, has a cycle
abbrev pub flat_checked : NetValue → Result NetValue HierRefusal
flat_checked N =
    elim (first_limit N) [
      | Some which ↦ Err (flat (limit which))
      | None ↦ elim (first_ungrounded (input_count N) N.tables) [
        | Some i ↦ Err (flat (cycle (name_of (signal_names N) (input_count N + i))))
        | None ↦ Ok N
      ]
    ]

unfoldable pub flattened : Hierarchy → Result NetValue HierRefusal
flattened h = flat_checked (flat_net h)
