use Rattle.std.proofs.Common.{◌≡◌, ◌++◌, map}
use Rattle.std.specs.Vec.Iter.{into_iter_items}
use Rattle.blif_text.specs.KeptLines.{table_without_rows}
use Rattle.blif_text.proofs.named_net.tables_without_rows.Given as goal

abbrev pub invariant-loop-table : goal.invariant-loop-table
invariant-loop-table l = record {
  whole : l.yielded ++ into_iter_items l.table-iterator ≡ l.fn.tables.items;
  all : l.bare.items ≡ map table_without_rows l.yielded;
}
