use Rattle.std.proofs.Common.{◌≡◌, ℕ, ◌*◌, ◌<◌, ◌≤◌, length}
use Rattle.semantics.specs.Error.{net_error}
use Rattle.lane_nets.specs.Blocks.{vector_at}
use Rattle.lane_nets.proofs.trials.first_over.Given as goal

abbrev pub invariant-loop-q : goal.invariant-loop-q
invariant-loop-q l = record {
  net : l.wide.net ≡ l.nets.approx;
  patterns : l.wide.patterns ≡ l.patterns;
  none : (k : ℕ) → k < 512 * l.q → k < length l.patterns.vectors → net_error l.metric l.nets.exact l.nets.approx (vector_at l.patterns.vectors k) ≤ l.level;
}
