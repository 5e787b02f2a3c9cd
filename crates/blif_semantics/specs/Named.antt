-- What holds of the words of a text where no line is wrong, and of the net where no name is doubled or
-- missing.
use Rattle.std.specs.Prelude.{◌≡◌, ◌≢◌, ◌<◌, true, List, [], map, length, All, AllPairs}
use Rattle.semantics.specs.Texts.{Bytes}
use Rattle.semantics.specs.Net.{TableValue, NetValue, signal_count, signal_names, IsName}
use Rattle.blif_semantics.specs.Tables.{NamedTable}
use Rattle.blif_semantics.specs.Reading.{NamedNet, signal_named}

-- `IsTable` of a table whose pins are names
pub record IsNamedTable (t : NamedTable) : Type 0 where
  pub named : IsName t.name
  pub pins : All IsName t.pins
  pub widths : All (λ marks. length marks ≡ length t.pins) t.rows
  pub plane : t.rows ≡ [] → t.plane ≡ true

-- every word in a name's place is a name
pub record IsNamedNet (d : NamedNet) : Type 0 where
  pub model : IsName d.model
  pub inputs : All IsName d.inputs
  pub outputs : All IsName d.outputs
  pub tables : All IsNamedTable d.tables

-- a table with the signals of its names
abbrev pub with_signals : List Bytes → NamedTable → TableValue
with_signals names t = record
    { name = t.name; pins = map (signal_named names) t.pins; rows = t.rows; plane = t.plane }

-- each name is driven once, there is an output, and what is read is driven
pub record IsDriven (N : NetValue) : Type 0 where
  pub names_differ : AllPairs ◌≢◌ (signal_names N)
  pub has_output : 0 < length N.outputs
  pub outputs_are_signals : All (λ s. s < signal_count N) N.outputs
  pub pins_are_signals : All (λ t. All (λ s. s < signal_count N) t.pins) N.tables
