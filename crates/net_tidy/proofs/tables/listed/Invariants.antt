use Rattle.std.proofs.Common.{◌≡◌, ℕ, ◌<◌, true, length}
use Rattle.semantics.specs.Net.{table_at, signal_count}
use Rattle.chain_semantics.specs.TidyRules.{has}
use Rattle.net_tidy.specs.Readers.{list_at}
use Rattle.net_tidy.proofs.tables.listed.Given as goal

abbrev pub invariant-loop-t : goal.invariant-loop-t
invariant-loop-t l = record {
  count : length l.readers ≡ signal_count l.net;
  listed : (s j : ℕ) → j < l.t → has (table_at l.net.tables j).pins s ≡ true → has (list_at l.readers s) j ≡ true;
}
