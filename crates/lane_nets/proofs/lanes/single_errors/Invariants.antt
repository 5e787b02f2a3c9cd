use Rattle.std.proofs.Common.{ℕ, ◌↔◌, ◌<◌, IsTrue}
use Rattle.semantics.specs.Error.{word_error}
use Rattle.lane_nets.specs.Words.{word_bit}
use Rattle.lane_nets.specs.Lanes.{lane_at}
use Rattle.lane_nets.proofs.lanes.single_errors.Given as goal

abbrev pub invariant-loop-b : goal.invariant-loop-b
invariant-loop-b l =
    (b : ℕ) → b < 64 → IsTrue (word_bit l.over b) ↔ ((b < l.b) × (l.level < word_error l.fn.kind (lane_at l.exact b) (lane_at l.approx b)))
