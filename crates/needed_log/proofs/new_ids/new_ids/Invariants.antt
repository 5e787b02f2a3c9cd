use Rattle.std.proofs.Common.{◌≡◌, ℕ, ◌+◌, ◌<◌, length, get_or}
use Rattle.needed_log.specs.Renumbered.{rank}
use Rattle.needed_log.proofs.new_ids.new_ids.Given as goal

abbrev pub invariant-loop-mark : goal.invariant-loop-mark
invariant-loop-mark l = record {
  next : l.next ≡ l.clauses + 1 + rank l.marks l.mark-index;
  count : length l.ids.items ≡ l.mark-index;
  ranks : (k : ℕ) → k < l.mark-index → get_or l.ids.items k 0 ≡ l.clauses + 1 + rank l.marks k;
}
