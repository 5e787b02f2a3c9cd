use Rattle.std.proofs.Common.{◌≡◌, take, sum_by}
use Rattle.semantics.specs.Net.{table_literals}
use Rattle.net_core.proofs.net.literal_count.Given as goal

abbrev pub invariant-loop-table : goal.invariant-loop-table
invariant-loop-table l = l.count ≡ sum_by table_literals (take l.table-index l.tables)
