-- What is asked of models that are put in order, of a hierarchy that was read.
use Rattle.std.proofs.Common.{All}
use Rattle.std.proofs.lemmas.List.Elements.{All-from_recursion}
use Rattle.semantics.specs.Net.{IsName}
use Rattle.hierarchy_semantics.specs.Models.{BlifModel, Hierarchy}
use Rattle.hierarchy_semantics.proofs.Members.{each_in}
use Rattle.hierarchy_semantics.proofs.Accepted.{HasNoRefusal, read_parts}
use Rattle.hier_flat.specs.Hierarchies.{IsReading}
use Rattle.hier_flat.proofs.Readings.{reading_formed}

-- no refusal holds of it
pub reading_right : (h : Hierarchy) → IsReading h → HasNoRefusal h
reading_right h reading = (read_parts reading.text reading.most h reading.read).none

-- its models have names
pub reading_named : (h : Hierarchy) → IsReading h → All (λ (m : BlifModel). IsName m.name) h
reading_named h reading =
    All-from_recursion (λ (m : BlifModel). IsName m.name) h (each_in (λ (m : BlifModel). IsName m.name) h (λ m inside. (reading_formed h reading m inside).name))
