-- The flat net as it is made, model by model: each use of a model gets the signals of the names there, and
-- adds its flat tables to those before.
use Rattle.std.specs.Prelude.{◌≡◌, ℕ, zero, suc, ◌+◌, Bool, true, false, List, [], ◌∷◌, ◌++◌, map, length}
use Rattle.std.specs.Prelude.{codes, decimal, slice_index_or, Option, Some, None, if◌then◌else◌}
use Rattle.std.specs.List.{range_with_len, AllByRecursion}
use Rattle.semantics.specs.declared.mark.Mark.TheVariants.{One}
use Rattle.semantics.specs.Texts.{Bytes}
use Rattle.semantics.specs.Net.{TableValue, IsName}
use Rattle.blif_semantics.specs.Tables.{NamedTable}
use Rattle.blif_semantics.specs.Named.{IsNamedTable}
use Rattle.blif_text.specs.Names.{place_of}
use Rattle.hierarchy_semantics.specs.Models.{Binding, Subcircuit, Part, names_part, subckt_part, BlifModel}
use Rattle.hierarchy_semantics.specs.Models.{Hierarchy, main_of, model_named}
use Rattle.hierarchy_semantics.specs.Driven.{bound_outputs}
use Rattle.hierarchy_semantics.specs.Places.{actual_of}
use Rattle.hierarchy_semantics.specs.Counts.{Weight, part_weight, model_weight}
use Rattle.hier_parts.specs.Driven.{driven_names}

-- each flat table counts one
abbrev pub by_tables : Weight
by_tables = record { of_table = λ t. 1; of_buffer = 1 }

-- the number of flat tables of a model, and of a part
abbrev pub size_of : Hierarchy → BlifModel → ℕ
size_of h m = model_weight h by_tables (length h) m

abbrev pub part_size : Hierarchy → Part → ℕ
part_size h p = part_weight h by_tables (size_of h) p

-- the signals of what parts drive, where the first flat table has this signal
abbrev pub own_signals : Hierarchy → ℕ → Part → List ℕ
own_signals h first (names_part t) = first ∷ []
own_signals h first (subckt_part c)
    = range_with_len (first + size_of h (model_named h c.model)) (length (bound_outputs h c))

abbrev pub part_signals : Hierarchy → ℕ → List Part → List ℕ
part_signals h first [] = []
part_signals h first (p ∷ parts) = own_signals h first p ++ part_signals h (first + part_size h p) parts

-- the signal of a name among names with signals
abbrev pub signal_in : List Bytes → List ℕ → Bytes → ℕ
signal_in names signals name = elim (place_of names name) [ None ↦ 0 | Some i ↦ slice_index_or signals i 0 ]

-- the signals of the names of a model whose inputs have these, where its first flat table has this signal
abbrev pub model_signal : Hierarchy → List ℕ → ℕ → BlifModel → Bytes → ℕ
model_signal h inputs first m = signal_in (driven_names h m) (inputs ++ part_signals h first m.parts)

-- the signals of the names of the model that is used, where the names around its use have these signals
abbrev pub used_signal : Hierarchy → (Bytes → ℕ) → ℕ → Subcircuit → Bytes → ℕ
used_signal h signal first c =
    model_signal h (map (λ name. signal (actual_of c name)) (model_named h c.model).inputs) first
    (model_named h c.model)

abbrev pub main_signal : Hierarchy → Bytes → ℕ
main_signal h = model_signal h (range_with_len 0 (length (main_of h).inputs)) (length (main_of h).inputs)
    (main_of h)

-- a table of the main model has its own name, and every other one its number
abbrev pub label : Bool → Bytes → ℕ → Bytes
label own name number = if own then name else codes "$u" ++ decimal number

abbrev pub table_made : Bool → (Bytes → ℕ) → NamedTable → ℕ → TableValue
table_made own signal t number
    = record { name = label own t.name number; pins = map signal t.pins; rows = t.rows; plane = t.plane }

abbrev pub buffer_made : Bool → ℕ → Bytes → ℕ → TableValue
buffer_made own pin name number
    = record { name = label own name number; pins = pin ∷ []; rows = (One ∷ []) ∷ []; plane = true }

-- the tables before, and a buffer for each binding of an output
abbrev pub with_buffers : Bool → (Bytes → ℕ) → List Binding → List TableValue → List TableValue
with_buffers own inside [] tables = tables
with_buffers own inside (b ∷ bindings) tables =
    with_buffers own inside bindings
    (tables ++ buffer_made own (inside b.formal) b.actual (length tables) ∷ [])

-- the tables before, and the tables of a part; the main model has `inputs` inputs, and `inner` adds the
-- tables of a model inside
abbrev pub with_part :
    Hierarchy → ℕ → ((Bytes → ℕ) → BlifModel → List TableValue → List TableValue) → Bool → (Bytes → ℕ) → Part
    → List TableValue → List TableValue
with_part h inputs inner own signal (names_part t) tables
    = tables ++ table_made own signal t (length tables) ∷ []
with_part h inputs inner own signal (subckt_part c) tables =
    with_buffers own (used_signal h signal (inputs + length tables) c) (bound_outputs h c)
    (inner (used_signal h signal (inputs + length tables) c) (model_named h c.model) tables)

abbrev pub with_parts :
    Hierarchy → ℕ → ((Bytes → ℕ) → BlifModel → List TableValue → List TableValue) → Bool → (Bytes → ℕ)
    → List Part → List TableValue → List TableValue
with_parts h inputs inner own signal [] tables = tables
with_parts h inputs inner own signal (p ∷ parts) tables =
    with_parts h inputs inner own signal parts (with_part h inputs inner own signal p tables)

-- the tables before, and the flat tables of a model, over `levels` levels of models
abbrev pub with_model : Hierarchy → ℕ → ℕ → Bool → (Bytes → ℕ) → BlifModel → List TableValue → List TableValue
with_model h inputs zero own signal m tables = tables
with_model h inputs (suc levels) own signal m tables
    = with_parts h inputs (with_model h inputs levels false) own signal m.parts tables

-- ---- what the code that makes the tables is given

-- the words of a part are right
abbrev pub IsFormedPart : Part → Type 0
IsFormedPart (names_part t) = IsNamedTable t
IsFormedPart (subckt_part c) = AllByRecursion (λ b. IsName b.actual) c.bindings

-- ---- what the code holds of names and signals

-- the signal at a slot; 0 where nothing drives the name
abbrev pub slot_signal : List ℕ → Option ℕ → ℕ
slot_signal signals slot = elim slot [ None ↦ 0 | Some i ↦ slice_index_or signals i 0 ]

-- the signals of what the parts drive, counted from the first flat table of the model, where these are given
abbrev pub AreOffsets : Hierarchy → BlifModel → Option (List ℕ) → Type 0
AreOffsets h m o = (offsets : List ℕ) → o ≡ Some offsets → offsets ≡ part_signals h 0 m.parts
