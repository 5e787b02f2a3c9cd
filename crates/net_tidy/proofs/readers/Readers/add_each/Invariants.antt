use Rattle.std.proofs.Common.{◌≡◌, ℕ, true, length, take}
use Rattle.chain_semantics.specs.TidyRules.{has}
use Rattle.net_tidy.specs.Readers.{list_at, IsWider}
use Rattle.net_tidy.proofs.readers.Readers.add_each.Given as goal

abbrev pub invariant-loop-signal : goal.invariant-loop-signal
invariant-loop-signal l = record {
  count : length l.self ≡ length l.fn.self;
  wider : IsWider l.fn.self l.self;
  listed : (s : ℕ) → has (take l.signal-index l.signals) s ≡ true → has (list_at l.self s) l.place ≡ true;
}
