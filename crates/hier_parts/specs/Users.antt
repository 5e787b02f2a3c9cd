-- Models as tables, each of which reads the models that it uses.
use Rattle.std.specs.Prelude.{ℕ, true, List, [], map}
use Rattle.semantics.specs.Texts.{Bytes}
use Rattle.semantics.specs.Net.{TableValue}
use Rattle.semantics.specs.Order.{IsOrderOf}
use Rattle.blif_semantics.specs.Reading.{signal_named}
use Rattle.hierarchy_semantics.specs.Models.{BlifModel, Hierarchy, uses_of}
use Rattle.hierarchy_semantics.specs.Refusals.{model_names}

-- the places of the models that a model uses, among these names
abbrev pub used_models : List Bytes → BlifModel → List ℕ
used_models names m = map (λ c. signal_named names c.model) (uses_of m)

abbrev pub user_table : List Bytes → BlifModel → TableValue
user_table names m = record { name = m.name; pins = used_models names m; rows = []; plane = true }

abbrev pub users : Hierarchy → List TableValue
users h = map (user_table (model_names h)) h

-- every model stands once, after those that it uses
abbrev pub IsModelOrder : Hierarchy → List ℕ → Type 0
IsModelOrder h order = IsOrderOf 0 (users h) order
