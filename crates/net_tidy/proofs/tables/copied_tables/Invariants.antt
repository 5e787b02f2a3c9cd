use Rattle.std.proofs.Common.{◌≡◌, take}
use Rattle.net_tidy.proofs.tables.copied_tables.Given as goal

abbrev pub invariant-loop-t : goal.invariant-loop-t
invariant-loop-t l = l.tables.items ≡ take l.t l.net.tables
