use Rattle.std.proofs.Common.{take, All}
use Rattle.semantics.specs.Net.{IsTable}
use Rattle.net_core.proofs.net.see_tables.Given as goal

abbrev pub invariant-loop-table : goal.invariant-loop-table
invariant-loop-table l = All IsTable (take l.table-index l.tables)
