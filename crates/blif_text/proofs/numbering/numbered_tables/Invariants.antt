use Rattle.std.proofs.Common.{◌≡◌, ◌++◌, All, map, flat_map}
use Rattle.std.specs.Vec.Iter.{into_iter_items}
use Rattle.blif_semantics.specs.Named.{IsNamedTable, with_signals}
use Rattle.blif_text.specs.Names.{first_unknown}
use Rattle.blif_text.proofs.numbering.numbered_tables.Given as goal

abbrev pub invariant-loop-table : goal.invariant-loop-table
invariant-loop-table l = record {
  whole : l.yielded ++ into_iter_items l.table-iterator ≡ l.fn.tables.items;
  all : l.list ≡ map (with_signals l.names) l.yielded;
  same : first_unknown l.names (flat_map (λ t. t.pins) (into_iter_items l.table-iterator)) ≡ first_unknown l.names (flat_map (λ t. t.pins) l.fn.tables.items);
  formed : All IsNamedTable (into_iter_items l.table-iterator);
}
