-- The names that a model drives, each with what drives it, and the names that it reads. Source: BLIF's
-- `.inputs`, `.names` and `.subckt`.
use Rattle.std.specs.Prelude.{ℕ, ◌+◌, List, [], ◌∷◌, ◌++◌, map, flat_map, filter, bytes_eq, Option}
use Rattle.std.specs.List.{find}
use Rattle.semantics.specs.Texts.{Bytes}
use Rattle.semantics.specs.Refusals.{has_name}
use Rattle.blif_semantics.specs.Tables.{NamedTable}
use Rattle.hierarchy_semantics.specs.Models.{Binding, Subcircuit, Part, names_part, subckt_part, BlifModel}
use Rattle.hierarchy_semantics.specs.Models.{Hierarchy, model_named}

-- What drives a name: an input, by its number; a table; or the output, with this formal name, of the model
-- that part n uses.
pub data Source : Type 0 where
  by_input : (i : ℕ) → Source
  by_table : NamedTable → Source
  by_output : (n : ℕ) (formal : Bytes) → Source

pub record Driven : Type 0 where
  pub name : Bytes
  pub source : Source

-- the bindings to outputs, and the bindings to inputs, of the model that is used
abbrev pub bound_outputs : Hierarchy → Subcircuit → List Binding
bound_outputs h c = filter (λ b. has_name (model_named h c.model).outputs b.formal) c.bindings

abbrev pub bound_inputs : Hierarchy → Subcircuit → List Binding
bound_inputs h c = filter (λ b. has_name (model_named h c.model).inputs b.formal) c.bindings

-- what each part gives, with the numbers of the parts from n on
abbrev pub over_parts : {X : Type 0} → (ℕ → Part → List X) → ℕ → List Part → List X
over_parts f n [] = []
over_parts f n (p ∷ parts) = f n p ++ over_parts f (n + 1) parts

abbrev pub inputs_driven : ℕ → List Bytes → List Driven
inputs_driven i [] = []
inputs_driven i (name ∷ names) = record { name = name; source = by_input i } ∷ inputs_driven (i + 1) names

-- a table drives its name, and the use of a model each name that is bound to an output, in the order of the
-- bindings
abbrev pub part_driven : Hierarchy → ℕ → Part → List Driven
part_driven h n (names_part t) = record { name = t.name; source = by_table t } ∷ []
part_driven h n (subckt_part c)
    = map (λ b. record { name = b.actual; source = by_output n b.formal }) (bound_outputs h c)

-- the inputs, and then what the parts drive
abbrev pub driven_of : Hierarchy → BlifModel → List Driven
driven_of h m = inputs_driven 0 m.inputs ++ over_parts (part_driven h) 0 m.parts

abbrev pub names_driven : Hierarchy → BlifModel → List Bytes
names_driven h m = map (λ d. d.name) (driven_of h m)

-- what drives a name in a model
abbrev pub source_of : Hierarchy → BlifModel → Bytes → Option Driven
source_of h m name = find (λ d. bytes_eq d.name name) (driven_of h m)

-- a table reads its pins, and the use of a model each name that is bound to an input
abbrev pub part_reads : Hierarchy → Part → List Bytes
part_reads h (names_part t) = t.pins
part_reads h (subckt_part c) = map (λ b. b.actual) (bound_inputs h c)

-- what the parts read, and then the outputs
abbrev pub names_read : Hierarchy → BlifModel → List Bytes
names_read h m = flat_map (part_reads h) m.parts ++ m.outputs
