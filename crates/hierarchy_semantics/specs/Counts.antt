-- How large the flat tables of a hierarchy are, by counting over the statements of its models: no flat table
-- is made.
use Rattle.std.specs.Prelude.{◌≡◌, ℕ, zero, suc, ◌+◌, ◌*◌, not, nat_le, length, sum_by, if◌then◌else◌}
use Rattle.semantics.specs.declared.limits.TheConstants.{MOST_TABLE_PINS}
use Rattle.semantics.specs.Net.{pin_count, row_count}
use Rattle.blif_semantics.specs.Tables.{NamedTable}
use Rattle.hierarchy_semantics.specs.Models.{Part, names_part, subckt_part, BlifModel, Hierarchy, main_of}
use Rattle.hierarchy_semantics.specs.Models.{model_named}
use Rattle.hierarchy_semantics.specs.Driven.{bound_outputs}
use Rattle.hierarchy_semantics.specs.Flat.{flat_net}

-- what one table counts, and what one buffer counts
pub record Weight : Type 0 where
  pub of_table : NamedTable → ℕ
  pub of_buffer : ℕ

abbrev pub part_weight : Hierarchy → Weight → (BlifModel → ℕ) → Part → ℕ
part_weight h w inner (names_part t) = w.of_table t
part_weight h w inner (subckt_part c)
    = inner (model_named h c.model) + length (bound_outputs h c) * w.of_buffer

-- what a model counts, with the models that it uses down to `levels` levels
abbrev pub model_weight : Hierarchy → Weight → ℕ → BlifModel → ℕ
model_weight h w zero m = 0
model_weight h w (suc levels) m = sum_by (part_weight h w (model_weight h w levels)) m.parts

abbrev pub flat_weight : Hierarchy → Weight → ℕ
flat_weight h w = model_weight h w (length h) (main_of h)

-- the tables of the flat net, their pins, their rows, and the tables of too many pins
pub record CountLaw : Type 0 where
  pub tables : (h : Hierarchy)
      → length (flat_net h).tables ≡ flat_weight h (record { of_table = λ t. 1; of_buffer = 1 })
  pub pins : (h : Hierarchy)
      → pin_count (flat_net h) ≡ flat_weight h (record { of_table = λ t. length t.pins; of_buffer = 1 })
  pub rows : (h : Hierarchy)
      → row_count (flat_net h) ≡ flat_weight h (record { of_table = λ t. length t.rows; of_buffer = 1 })
  pub wide : (h : Hierarchy)
      → sum_by (λ t. if not (nat_le (length t.pins) MOST_TABLE_PINS) then 1 else 0) (flat_net h).tables
      ≡ flat_weight h (record {
        of_table
            = λ t. if not (nat_le (length t.pins) MOST_TABLE_PINS) then 1 else 0;
        of_buffer = 0;
      })
