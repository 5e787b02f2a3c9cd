use Rattle.std.proofs.Common.{◌≡◌, ℕ, ◌+◌, ◌*◌, ◌<◌, length}
use Rattle.semantics.specs.Value.{outputs_of}
use Rattle.lane_nets.specs.Blocks.{vector_at, row_at}
use Rattle.lane_nets.specs.Lanes.{lane_at}
use Rattle.lane_nets.proofs.outputs.output_rows.Given as goal

abbrev pub invariant-loop-k : goal.invariant-loop-k
invariant-loop-k l = record {
  count : length l.rows ≡ l.k;
  widths : (j : ℕ) → j < l.k → length (row_at l.rows j) ≡ length l.net.outputs;
  are : (j b : ℕ) → j < l.k → b < 64 → lane_at (row_at l.rows j) b ≡ outputs_of l.net (vector_at l.patterns.vectors (64 * j + b));
}
