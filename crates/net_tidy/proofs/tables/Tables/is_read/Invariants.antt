use Rattle.std.proofs.Common.{◌≡◌, length}
use Rattle.net_tidy.specs.Readers.{list_at, IsListed}
use Rattle.net_tidy.proofs.tables.Tables.is_read.Given as goal

abbrev pub invariant-loop-place : goal.invariant-loop-place
invariant-loop-place l = record {
  same : l.self-inside.tables.items ≡ l.fn.self;
  listed : IsListed l.self-inside.tables.items l.self-inside.readers;
}

abbrev pub decreases-loop-place : goal.decreases-loop-place
decreases-loop-place l = length (list_at l.self-inside.readers l.s)
