-- An arithmetic network under construction, and what holds of it after each table.
use Rattle.std.specs.Prelude.{◌≡◌, ℕ, ◌+◌, ◌<◌, true, List, [], ◌∷◌, ◌++◌, map, length, take, All, decimal}
use Rattle.std.specs.Prelude.{codes}
use Rattle.std.specs.List.{range_with_len}
use Rattle.semantics.specs.Net.{TableValue, NetValue, table_at, IsInOrder}
use Rattle.quality_semantics.specs.Forms.{Form, zero_form, one_form}

pub record WordNetValue : Type 0 where
  pub inputs : ℕ
  pub tables : List TableValue

-- the number of signals, and so the next signal
abbrev pub signals : WordNetValue → ℕ
signals W = W.inputs + length W.tables

-- the table of a form at place i of the tables: its name is `ti`
abbrev pub table_of : ℕ → Form → TableValue
table_of i f = record { name = 116 ∷ decimal i; pins = f.pins; rows = f.rows; plane = true }

-- the network with one table more, whose signal is `signals W`
abbrev pub appended : WordNetValue → Form → WordNetValue
appended W f = record { inputs = W.inputs; tables = W.tables ++ table_of (length W.tables) f ∷ [] }

-- every network begins with a table for 0, which is signal n, and one for 1
abbrev pub started : ℕ → WordNetValue
started n = record { inputs = n; tables = table_of 0 zero_form ∷ table_of 1 one_form ∷ [] }

-- the net of a network, with inputs `x0`, `x1` and so on
abbrev pub net_of : WordNetValue → List ℕ → NetValue
net_of W outputs = record {
  model = codes "word";
  inputs = map (λ i. 120 ∷ decimal i) (range_with_len 0 W.inputs);
  tables = W.tables;
  outputs = outputs;
}

-- the network begins with an earlier one
pub record BeginsWith (W earlier : WordNetValue) : Type 0 where
  pub inputs : W.inputs ≡ earlier.inputs
  pub tables : take (length earlier.tables) W.tables ≡ earlier.tables

-- a list of signals of the network
abbrev pub AreSignalsOf : WordNetValue → List ℕ → Type 0
AreSignalsOf W bus = All (λ s. s < signals W) bus

-- what is so of each table, by its place i
pub record IsWordTable (i : ℕ) (t : TableValue) : Type 0 where
  pub name : t.name ≡ 116 ∷ decimal i
  pub widths : All (λ marks. length marks ≡ length t.pins) t.rows
  pub plane : t.plane ≡ true

-- the two constants are there, and each table reads only signals before its own
pub record IsWordNet (W : WordNetValue) : Type 0 where
  pub room : 1 < length W.tables
  pub in_order : IsInOrder W.inputs W.tables
  pub formed : (i : ℕ) → i < length W.tables → IsWordTable i (table_at W.tables i)
