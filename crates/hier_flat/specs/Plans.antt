-- Plans of models: the names of a model as places among the names that it drives.
use Rattle.std.specs.Prelude.{◌≡◌, ℕ, Bool, List, [], ◌∷◌, ◌++◌, map, length}
use Rattle.std.specs.List.{AllByRecursion}
use Rattle.semantics.specs.Texts.{Bytes}
use Rattle.semantics.specs.Net.{TableValue}
use Rattle.blif_text.specs.Names.{place_of}
use Rattle.hierarchy_semantics.specs.Models.{Binding, Part, names_part, subckt_part, Hierarchy}
use Rattle.hierarchy_semantics.specs.Models.{model_named}
use Rattle.hierarchy_semantics.specs.Refusals.{model_names}
use Rattle.hierarchy_semantics.specs.Driven.{bound_outputs}
use Rattle.hierarchy_semantics.specs.Places.{actual_of}
use Rattle.hier_parts.specs.Driven.{driven_names}
use Rattle.hier_flat.specs.Outputs.{OutputPlan}
use Rattle.hier_flat.specs.Flattening.{AreOffsets, slot_signal, label, buffer_made}
use Rattle.hier_flat.specs.Flattening.{IsFormedPart}
use Rattle.hier_flat.specs.declared.plans.TablePlan.{TablePlan}
use Rattle.hier_flat.specs.declared.plans.UsePlan.{UsePlan}
use Rattle.hier_flat.specs.declared.plans.PartPlan.{PartPlan}
use Rattle.hier_flat.specs.declared.plans.PartPlan.TheVariants.{Table, Use}
use Rattle.hier_flat.specs.declared.plans.Plan.{Plan}

-- the part of the model that is planned
abbrev pub part_of : PartPlan → Part
part_of (Table t) = names_part t.table.now
part_of (Use u) = subckt_part u.subcircuit.now

-- a binding of an output, where the model that is used drives these names
abbrev pub output_plan : List Bytes → Binding → OutputPlan
output_plan inside b = record { slot = place_of inside b.formal; actual = b.actual }

-- the plan of a use, in a model that drives these names
pub record IsUsePlan (h : Hierarchy) (names : List Bytes) (u : UsePlan) : Type 0 where
  pub place : u.place ≡ place_of (model_names h) u.subcircuit.now.model
  pub inputs : u.inputs.items
      ≡ map (λ name. place_of names (actual_of u.subcircuit.now name))
      (model_named h u.subcircuit.now.model).inputs
  pub outputs : u.outputs.items
      ≡ map (output_plan (driven_names h (model_named h u.subcircuit.now.model)))
      (bound_outputs h u.subcircuit.now)

abbrev pub IsPartPlan : Hierarchy → List Bytes → PartPlan → Type 0
IsPartPlan h names (Table t) = t.pins.items ≡ map (place_of names) t.table.now.pins
IsPartPlan h names (Use u) = IsUsePlan h names u

-- the plan of its model
pub record IsPlan (h : Hierarchy) (p : Plan) : Type 0 where
  pub parts : map part_of p.parts.items ≡ p.model.now.parts
  pub each : AllByRecursion (IsPartPlan h (driven_names h p.model.now)) p.parts.items
  pub outputs : p.outputs.items ≡ map (place_of (driven_names h p.model.now)) p.model.now.outputs
  pub offsets : AreOffsets h p.model.now p.offsets
  pub formed : AllByRecursion IsFormedPart p.model.now.parts

-- the words of each model's parts are right
abbrev pub AreFormed : Hierarchy → Type 0
AreFormed h = AllByRecursion (λ m. AllByRecursion IsFormedPart m.parts) h

-- the flat table of this number, where the names of its model have these signals
abbrev pub slot_table : Bool → List ℕ → TablePlan → ℕ → TableValue
slot_table own signals t number = record {
  name = label own t.table.now.name number;
  pins = map (slot_signal signals) t.pins.items;
  rows = t.table.now.rows;
  plane = t.table.now.plane;
}

-- the tables before, and a buffer for each output
abbrev pub with_slot_buffers : Bool → List ℕ → List OutputPlan → List TableValue → List TableValue
with_slot_buffers own signals [] tables = tables
with_slot_buffers own signals (o ∷ outputs) tables =
    with_slot_buffers own signals outputs
    (tables ++ buffer_made own (slot_signal signals o.slot) o.actual (length tables) ∷ [])
