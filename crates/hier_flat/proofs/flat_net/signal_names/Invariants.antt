use Rattle.std.proofs.Common.{◌≡◌, ◌++◌, map, take}
use Rattle.hier_flat.proofs.flat_net.signal_names.Given as goal

abbrev pub invariant-loop-table : goal.invariant-loop-table
invariant-loop-table l = l.names ≡ l.inputs ++ map (λ t. t.name) (take l.table-index l.table-items)
