-- How much models count, as far as a `u64` holds it.
use Rattle.std.specs.Prelude.{◌≡◌, ℕ, ◌-◌, ◌^◌, min, Bool, not, nat_le, length, List, map, Option}
use Rattle.std.specs.Prelude.{slice_index_or, Some, None, if◌then◌else◌}
use Rattle.std.specs.List.{AllByRecursion}
use Rattle.semantics.specs.declared.which.Which.{Which}
use Rattle.semantics.specs.declared.which.Which.TheVariants as which
use Rattle.semantics.specs.declared.limits.TheConstants.{MOST_TABLE_PINS}
use Rattle.semantics.specs.Texts.{Bytes}
use Rattle.blif_text.specs.Names.{place_of}
use Rattle.hierarchy_semantics.specs.Models.{Subcircuit, BlifModel, Hierarchy, model_named}
use Rattle.hierarchy_semantics.specs.Refusals.{model_names}
use Rattle.hierarchy_semantics.specs.Counts.{Weight, model_weight}
use Rattle.hier_flat.specs.declared.weights.Measure.{Measure}
use Rattle.hier_flat.specs.declared.weights.Measure.TheVariants.{Tables, WideTables, Pins, Rows}

abbrev pub weight_of : Measure → Weight
weight_of Tables = record { of_table = λ t. 1; of_buffer = 1 }
weight_of WideTables = record
    { of_table = λ t. if not (nat_le (length t.pins) MOST_TABLE_PINS) then 1 else 0; of_buffer = 0 }
weight_of Pins = record { of_table = λ t. length t.pins; of_buffer = 1 }
weight_of Rows = record { of_table = λ t. length t.rows; of_buffer = 1 }

abbrev pub capped : ℕ → ℕ
capped n = min n (2 ^ 64 - 1)

-- the weight of the model of a name
abbrev pub weight_named : Hierarchy → List ℕ → Bytes → ℕ
weight_named h weights name
    = elim (place_of (model_names h) name) [ None ↦ 0 | Some i ↦ slice_index_or weights i 0 ]

-- the models that are used here have these weights
abbrev pub AreWeights : Hierarchy → List ℕ → (BlifModel → ℕ) → List Subcircuit → Type 0
AreWeights h weights inside uses
    = AllByRecursion (λ c. weight_named h weights c.model ≡ capped (inside (model_named h c.model))) uses

-- the weights of all models over a number of levels of models
abbrev pub level_weights : Hierarchy → Weight → ℕ → List ℕ
level_weights h w levels = map (λ m. capped (model_weight h w levels m)) h

-- the first of the limits that are passed
abbrev pub limit_by : Bool → Bool → Bool → Bool → Bool → Bool → Option Which
limit_by inputs outputs tables wide pins rows =
    if inputs then Some which.Inputs
    else (if outputs then Some which.Outputs
    else (if tables then Some which.Tables
    else (if wide then Some which.Pins
    else (if pins then Some which.AllPins else (if rows then Some which.Rows else None)))))
