use Rattle.std.proofs.Common.{◌≡◌, ℕ, ◌<◌, length}
use Rattle.lane_nets.specs.Blocks.{row_at, IsBlock}
use Rattle.lane_nets.proofs.blocks.blocks.Given as goal

abbrev pub invariant-loop-k : goal.invariant-loop-k
invariant-loop-k l = (length l.blocks ≡ l.k) × ((j : ℕ) → j < l.k → IsBlock l.net l.patterns.vectors j (row_at l.blocks j))
