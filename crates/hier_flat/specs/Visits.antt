-- The flat tables that visits of models still add.
use Rattle.std.specs.Prelude.{ℕ, false, List, [], ◌∷◌, map, drop}
use Rattle.std.specs.List.{AllByRecursion}
use Rattle.semantics.specs.Texts.{Bytes}
use Rattle.semantics.specs.Net.{TableValue, IsName}
use Rattle.hierarchy_semantics.specs.Models.{Part, Hierarchy}
use Rattle.hier_parts.specs.Driven.{driven_names}
use Rattle.hier_flat.specs.Flattening.{signal_in, with_part, with_parts, with_model}
use Rattle.hier_flat.specs.Plans.{part_of, with_slot_buffers, IsPlan}
use Rattle.hier_flat.specs.declared.visits.Visit.{Visit}

-- the signals of the names of the model
abbrev pub visit_signal : Hierarchy → Visit → Bytes → ℕ
visit_signal h v = signal_in (driven_names h v.plan.now.model.now) v.signals

-- the tables before, and those of one part of the model
abbrev pub with_visit_part : Hierarchy → ℕ → Visit → Part → List TableValue → List TableValue
with_visit_part h inputs v p tables
    = with_part h inputs (with_model h inputs v.levels false) v.own (visit_signal h v) p tables

-- the tables before, those of the parts that are left, and the buffers of the model's outputs
abbrev pub with_visit : Hierarchy → ℕ → Visit → List TableValue → List TableValue
with_visit h inputs v tables =
    with_slot_buffers v.buffers_own v.signals v.outputs.now
    (with_parts h inputs (with_model h inputs v.levels false) v.own (visit_signal h v)
    (map part_of (drop v.next v.plan.now.parts.items)) tables)

-- the tables before, and those that a stack of visits still adds; the last visit goes first
abbrev pub with_visits : Hierarchy → ℕ → List Visit → List TableValue → List TableValue
with_visits h inputs [] tables = tables
with_visits h inputs (v ∷ above) tables = with_visit h inputs v (with_visits h inputs above tables)

-- the plan is that of its model, and what is bound to outputs are names
pub record IsVisit (h : Hierarchy) (v : Visit) : Type 0 where
  pub plan : IsPlan h v.plan.now
  pub names : AllByRecursion (λ o. IsName o.actual) v.outputs.now
