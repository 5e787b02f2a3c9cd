-- The values of the places of a hierarchy: what its models mean, without any list of tables. Source: BLIF's
-- `.subckt` and its tables.
use Rattle.std.specs.Prelude.{◌≡◌, ℕ, zero, suc, ◌<◌, Bool, false, List, [], ◌∷◌, length, slice_index_or}
use Rattle.std.specs.Prelude.{bytes_eq, Option, Some, None, option_map}
use Rattle.std.specs.List.{find, range_with_len}
use Rattle.semantics.specs.Texts.{Bytes}
use Rattle.semantics.specs.Value.{table_value}
use Rattle.blif_semantics.specs.Tables.{NamedTable}
use Rattle.hierarchy_semantics.specs.Models.{Subcircuit, Part, names_part, subckt_part, BlifModel, Hierarchy}
use Rattle.hierarchy_semantics.specs.Models.{main_of, model_named}
use Rattle.hierarchy_semantics.specs.Driven.{Source, by_input, by_table, by_output, Driven, source_of}

-- A path of `.subckt` statements from the main model, as the numbers of the parts; the last stands first. A
-- place is a path together with a name in the model at its end.
abbrev pub Path : Type 0
Path = List ℕ

abbrev pub no_use : Subcircuit
no_use = record { line = 0; model = []; bindings = [] }

abbrev pub use_of : Part → Subcircuit
use_of (names_part t) = no_use
use_of (subckt_part c) = c

-- the use of a model that is part n
abbrev pub use_at : BlifModel → ℕ → Subcircuit
use_at m n = use_of (slice_index_or m.parts n (subckt_part no_use))

-- the model at the end of a path
abbrev pub model_at : Hierarchy → Path → BlifModel
model_at h [] = main_of h
model_at h (n ∷ up) = model_named h (use_at (model_at h up) n).model

-- part n is the use of a model
abbrev pub IsUse : BlifModel → ℕ → Subcircuit → Type 0
IsUse m n c = (n < length m.parts) × (slice_index_or m.parts n (subckt_part no_use) ≡ subckt_part c)

-- each number of the path is that of the use of a model
abbrev pub IsPath : Hierarchy → Path → Type 0
IsPath h [] = Unit {0}
IsPath h (n ∷ up) = IsPath h up × ((c : Subcircuit) × IsUse (model_at h up) n c)

-- the name that is bound to a port
abbrev pub actual_of : Subcircuit → Bytes → Bytes
actual_of c name = elim (find (λ b. bytes_eq b.formal name) c.bindings) [ None ↦ [] | Some b ↦ b.actual ]

abbrev pub and_value : Option Bool → Option (List Bool) → Option (List Bool)
and_value None bits = None
and_value (Some bit) bits = option_map (λ rest. bit ∷ rest) bits

-- the values of all these names, where each has one
abbrev pub values_of : (Bytes → Option Bool) → List Bytes → Option (List Bool)
values_of value [] = Some []
values_of value (name ∷ names) = and_value (value name) (values_of value names)

-- the value of a table whose pins have these values
abbrev pub value_at_bits : NamedTable → List Bool → Bool
value_at_bits t bits =
    table_value (record {
      name = t.name;
      pins = range_with_len 0 (length t.pins);
      rows = t.rows;
      plane = t.plane;
    }) (λ s. slice_index_or bits s false)

-- An input of the main model has its bit. An input of another model has the value of the name that is bound
-- to it, one path up.
abbrev pub input_value : Hierarchy → List Bool → (Path → Bytes → Option Bool) → Path → ℕ → Bytes → Option Bool
input_value h x before [] i name = Some (slice_index_or x i false)
input_value h x before (n ∷ up) i name = before up (actual_of (use_at (model_at h up) n) name)

-- A table has the value of its rows at the values of its pins; a name that is bound to an output has the
-- value of that output one path down.
abbrev pub source_value : Hierarchy → List Bool → (Path → Bytes → Option Bool) → Path → Bytes → Source
    → Option Bool
source_value h x before path name (by_input i) = input_value h x before path i name
source_value h x before path name (by_table t) = option_map (value_at_bits t) (values_of (before path) t.pins)
source_value h x before path name (by_output n formal) = before (n ∷ path) formal

abbrev pub driven_value : Hierarchy → List Bool → (Path → Bytes → Option Bool) → Path → Option Driven
    → Option Bool
driven_value h x before path None = None
driven_value h x before path (Some d) = source_value h x before path d.name d.source

-- the value of a place at the input vector x, where `steps` steps give one
unfoldable pub place_value : Hierarchy → List Bool → ℕ → Path → Bytes → Option Bool
place_value h x zero path name = None
place_value h x (suc steps) path name
    = driven_value h x (place_value h x steps) path (source_of h (model_at h path) name)

-- some number of steps gives this value, and no number of steps gives another
pub record HasValue (h : Hierarchy) (x : List Bool) (path : Path) (name : Bytes) (bit : Bool) : Type 0 where
  pub steps : ℕ
  pub is : place_value h x steps path name ≡ Some bit
  pub only : (other : ℕ) (value : Bool) → place_value h x other path name ≡ Some value → value ≡ bit
