use Rattle.std.proofs.Common.{◌≡◌, length}
use Rattle.semantics.specs.Net.{input_count, signal_count}
use Rattle.net_core.proofs.InOrder.{HoldsBefore}
use Rattle.merge_log.specs.Levels.{IsLevel}
use Rattle.merge_log.proofs.levels.levels.Given as goal

-- the inputs, and the tables of the order so far, have their levels
abbrev pub invariant-loop-i : goal.invariant-loop-i
invariant-loop-i l = record {
  count : length l.levels.items ≡ signal_count l.net;
  holds : HoldsBefore (IsLevel (input_count l.net) l.net.tables) 0 (input_count l.net) l.i-items l.i-index l.levels.items;
}
