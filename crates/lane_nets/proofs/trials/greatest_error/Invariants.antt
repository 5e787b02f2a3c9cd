use Rattle.std.proofs.Common.{◌≡◌, ◌*◌, min, length}
use Rattle.semantics.specs.Error.{net_error}
use Rattle.lane_nets.specs.Blocks.{vector_at}
use Rattle.lane_nets.specs.Errors.{IsGreatestSoFar}
use Rattle.lane_nets.proofs.trials.greatest_error.Given as goal

-- the greatest error of the patterns of the blocks so far
abbrev pub invariant-loop-q : goal.invariant-loop-q
invariant-loop-q l = record {
  net : l.wide.net ≡ l.nets.approx;
  patterns : l.wide.patterns ≡ l.patterns;
  greatest : IsGreatestSoFar (λ k. net_error l.metric l.nets.exact l.nets.approx (vector_at l.patterns.vectors k)) (min (512 * l.q) (length l.patterns.vectors)) l.greatest.at l.greatest.error;
}
