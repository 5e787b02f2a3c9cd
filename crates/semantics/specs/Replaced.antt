-- One table in the place of another. Source: SALSA's simplifications, each of which changes one table.
use Rattle.std.specs.Prelude.{ℕ, List, slice_set}
use Rattle.semantics.specs.Net.{TableValue, NetValue}

-- the tables with another in the place of table t
abbrev pub replaced : List TableValue → ℕ → TableValue → List TableValue
replaced tables t new = slice_set tables t new

-- the net with another table in the place of table t, and nothing else changed
abbrev pub with_table : NetValue → ℕ → TableValue → NetValue
with_table N t new = record N { tables = replaced N.tables t new }
