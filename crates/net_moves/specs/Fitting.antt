-- When a move can be made of a table, whatever net it stands in.
use Rattle.std.specs.Prelude.{◌<◌, length}
use Rattle.semantics.specs.Net.{TableValue}
use Rattle.chain_semantics.specs.declared.moves.Move.{Move}
use Rattle.chain_semantics.specs.declared.moves.Move.TheVariants.{Const, DropRow, DropLiteral, Signal, Pair}
use Rattle.chain_semantics.specs.Moves.{row_at}

-- a row that goes is one of several, and a mark that goes is one of its row
abbrev pub Fits : TableValue → Move → Type 0
Fits table (Const t value) = Unit {0}
Fits table (DropRow t row) = (1 < length table.rows) × (row < length table.rows)
Fits table (DropLiteral t row pin) = (row < length table.rows) × (pin < length (row_at table.rows row))
Fits table (Signal t s flip) = Unit {0}
Fits table (Pair t s flip_s u flip_u flip) = Unit {0}
