-- What is accepted as a hierarchy, in the words of its refusals.
use Rattle.std.specs.Prelude.{◌≡◌, ◌≢◌, ◌↔◌, ℕ, zero, suc, ◌<◌, false, map, length, None, AllPairs, Contains}
use Rattle.std.specs.List.{AllByRecursion}
use Rattle.hierarchy_semantics.specs.Models.{Subcircuit, BlifModel, Hierarchy, main_of, model_named, uses_of}
use Rattle.hierarchy_semantics.specs.Models.{all_uses}
use Rattle.hierarchy_semantics.specs.Driven.{names_driven, names_read}
use Rattle.hierarchy_semantics.specs.Refusals.{model_names, formals_of, is_taken, hier_refusal}

-- `is_model_grounded` as a relation
abbrev pub IsModelGrounded : Hierarchy → ℕ → BlifModel → Type 0
IsModelGrounded h zero m = ⊥
IsModelGrounded h (suc steps) m
    = AllByRecursion (λ c. IsModelGrounded h steps (model_named h c.model)) (uses_of m)

-- a model that is used has ports that differ
abbrev pub HasPorts : Hierarchy → BlifModel → Type 0
HasPorts h m = Contains (map (λ c. c.model) (all_uses h)) m.name → AllPairs ◌≢◌ m.ports

-- each formal is a port of the model, and bound once; each input is bound
pub record IsBound (h : Hierarchy) (c : Subcircuit) : Type 0 where
  pub ports : AllByRecursion (Contains (model_named h c.model).ports) (formals_of c)
  pub once : AllPairs ◌≢◌ (formals_of c)
  pub inputs : AllByRecursion (Contains (formals_of c)) (model_named h c.model).inputs

-- each name is driven once, there is an output, and each name that is read is driven
pub record IsWholeModel (h : Hierarchy) (m : BlifModel) : Type 0 where
  pub once : AllPairs ◌≢◌ (names_driven h m)
  pub output : 0 < length m.outputs
  pub driven : AllByRecursion (Contains (names_driven h m)) (names_read h m)

pub record IsHierarchy (h : Hierarchy) : Type 0 where
  pub names_differ : AllPairs ◌≢◌ (model_names h)
  pub known : AllByRecursion (λ c. Contains (model_names h) c.model) (all_uses h)
  pub grounded : AllByRecursion (IsModelGrounded h (length h)) h
  pub ports : AllByRecursion (HasPorts h) h
  pub bound : AllByRecursion (IsBound h) (all_uses h)
  pub whole : AllByRecursion (IsWholeModel h) h
  pub free : AllByRecursion (λ name. is_taken name ≡ false) (names_driven h (main_of h))

-- the models that have no refusal are the hierarchies
abbrev pub AcceptedLaw : Type 0
AcceptedLaw = (h : Hierarchy) → (hier_refusal h ≡ None) ↔ IsHierarchy h
