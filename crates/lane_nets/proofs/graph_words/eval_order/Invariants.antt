use Rattle.std.proofs.Common.{◌≢◌, ℕ, ◌<◌, length}
use Rattle.lane_nets.specs.Schedules.{entry_at, IsDone, IsSameNode}
use Rattle.lane_nets.proofs.graph_words.eval_order.Given as goal

abbrev pub invariant-loop-i : goal.invariant-loop-i
invariant-loop-i l = record {
  done : (p : ℕ) → p < l.i → p < length l.order → IsDone l.wides (entry_at l.order p);
  others : (n : ℕ) → ((p : ℕ) → p < length l.order → (entry_at l.order p).node ≢ n) → IsSameNode l.initial.wides l.wides n;
}
