-- The names that a model drives, part by part.
use Rattle.std.specs.Prelude.{List, [], ◌∷◌, ◌++◌, map, flat_map}
use Rattle.semantics.specs.Texts.{Bytes}
use Rattle.hierarchy_semantics.specs.Models.{Part, names_part, subckt_part, BlifModel, Hierarchy}
use Rattle.hierarchy_semantics.specs.Driven.{bound_outputs}

abbrev pub part_names : Hierarchy → Part → List Bytes
part_names h (names_part t) = t.name ∷ []
part_names h (subckt_part c) = map (λ b. b.actual) (bound_outputs h c)

abbrev pub driven_names : Hierarchy → BlifModel → List Bytes
driven_names h m = m.inputs ++ flat_map (part_names h) m.parts
