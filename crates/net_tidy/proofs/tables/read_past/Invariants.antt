use Rattle.std.proofs.Common.{◌≡◌, ℕ, true, false, length, take}
use Rattle.semantics.specs.Net.{table_at}
use Rattle.chain_semantics.specs.TidyRules.{has}
use Rattle.net_tidy.specs.Flags.{IsDown}
use Rattle.net_tidy.proofs.Reading.{IsPast}
use Rattle.net_tidy.proofs.tables.read_past.Given as goal

abbrev pub invariant-loop-place : goal.invariant-loop-place
invariant-loop-place l = record {
  past : IsPast l.from l.to l.inverted l.fn.tables (take l.place-index l.places) l.tables;
  count : length l.flags ≡ length l.fn.flags;
  down : (j : ℕ) → IsDown l.flags j → IsDown l.fn.flags j × (has (take l.place-index l.places) j ≡ true → has (table_at l.fn.tables j).pins l.from ≡ false);
}
