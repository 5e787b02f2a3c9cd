use Rattle.std.proofs.Common.{◌≡◌, ◌++◌, map, take, drop}
use Rattle.semantics.specs.Renamed.{renamed}
use Rattle.net_tidy.specs.Places.{number_at}
use Rattle.net_tidy.proofs.tables.renumber_tables.Given as goal

abbrev pub invariant-loop-table : goal.invariant-loop-table
invariant-loop-table l = l.tables ≡ map (renamed (number_at l.numbers)) (take l.table-index l.fn.tables) ++ drop l.table-index l.fn.tables
