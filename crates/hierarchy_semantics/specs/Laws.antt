-- The laws about hierarchies, each the contract of a function without parameters.
use Rattle.std.specs.Prelude.{◌≡◌, ℕ, ◌<◌, Bool, false, List, [], length, slice_index_or, Contains, Ok}
use Rattle.semantics.specs.Texts.{Bytes}
use Rattle.semantics.specs.Net.{NetValue, name_of, IsSound, IsSmall}
use Rattle.semantics.specs.Value.{value_of, outputs_of}
use Rattle.hierarchy_semantics.specs.Models.{Hierarchy, main_of}
use Rattle.hierarchy_semantics.specs.Driven.{names_driven}
use Rattle.hierarchy_semantics.specs.Places.{Path, IsPath, model_at, HasValue}
use Rattle.hierarchy_semantics.specs.Flat.{place_signal, flat_net, flattened}
use Rattle.hierarchy_semantics.specs.Reading.{hier_reading}

-- the text is read as this hierarchy, and the flat net of the hierarchy is given
pub record IsFlattened (text : Bytes) (most : ℕ) (h : Hierarchy) (N : NetValue) : Type 0 where
  pub read : hier_reading text most ≡ Ok h
  pub flat : flattened h ≡ Ok N

-- The net that is given is the flat net, sound and small. Each place of the hierarchy has a value, the value
-- of its signal in the flat net; so each output of the main model has a value, and the flat net's output has
-- the same.
pub record FlatLaw : Type 0 where
  pub is_flat : (text : Bytes) (most : ℕ) (h : Hierarchy) (N : NetValue) → IsFlattened text most h N
      → N ≡ flat_net h
  pub sound : (text : Bytes) (most : ℕ) (h : Hierarchy) (N : NetValue) → IsFlattened text most h N → IsSound N
  pub small : (text : Bytes) (most : ℕ) (h : Hierarchy) (N : NetValue) → IsFlattened text most h N → IsSmall N
  pub places : (text : Bytes) (most : ℕ) (h : Hierarchy) (N : NetValue) → IsFlattened text most h N
      → (x : List Bool) (path : Path) (name : Bytes) → IsPath h path
      → Contains (names_driven h (model_at h path)) name
      → HasValue h x path name (value_of (length N.inputs) N.tables x (place_signal h path name))
  pub outputs : (text : Bytes) (most : ℕ) (h : Hierarchy) (N : NetValue) → IsFlattened text most h N
      → (x : List Bool) (i : ℕ) → i < length (main_of h).outputs
      → HasValue h x [] (name_of (main_of h).outputs i) (slice_index_or (outputs_of N x) i false)
