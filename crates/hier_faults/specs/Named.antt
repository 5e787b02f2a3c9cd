-- Models in which each word in a name's place is a name, and refusals that tell names.
use Rattle.std.specs.Prelude.{All}
use Rattle.semantics.specs.Net.{IsName}
use Rattle.blif_semantics.specs.Reading.{Refusal, doubled, undriven}
use Rattle.hierarchy_semantics.specs.Models.{Binding, Part, names_part, subckt_part, BlifModel, Hierarchy}
use Rattle.hierarchy_semantics.specs.Refusals.{HierRefusal, same_model, no_model_named, recursive, ports}
use Rattle.hierarchy_semantics.specs.Refusals.{formal, unbound, part, taken}

abbrev pub IsNamedBinding : Binding → Type 0
IsNamedBinding b = IsName b.formal × IsName b.actual

abbrev pub IsNamedPart : Part → Type 0
IsNamedPart (names_part t) = IsName t.name × All IsName t.pins
IsNamedPart (subckt_part c) = IsName c.model × All IsNamedBinding c.bindings

pub record IsNamedModel (m : BlifModel) : Type 0 where
  pub name : IsName m.name
  pub ports : All IsName m.ports
  pub inputs : All IsName m.inputs
  pub outputs : All IsName m.outputs
  pub parts : All IsNamedPart m.parts

abbrev pub AreNamed : Hierarchy → Type 0
AreNamed h = All IsNamedModel h

-- the refusal of one model tells a name, if it tells anything
abbrev pub PartTellsName : Refusal → Type 0
PartTellsName (doubled name) = IsName name
PartTellsName (undriven name) = IsName name
PartTellsName _ = Unit {0}

-- the refusal of models tells names
abbrev pub TellsNames : HierRefusal → Type 0
TellsNames (same_model name) = IsName name
TellsNames (no_model_named name) = IsName name
TellsNames (recursive name) = IsName name
TellsNames (ports model name) = IsName model × IsName name
TellsNames (formal line name) = IsName name
TellsNames (unbound line name) = IsName name
TellsNames (part model refusal) = IsName model × PartTellsName refusal
TellsNames (taken name) = IsName name
TellsNames _ = Unit {0}
