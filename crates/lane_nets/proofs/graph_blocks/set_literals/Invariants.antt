use Rattle.std.proofs.Common.{◌≡◌, ℕ, ◌<◌, get_or}
use Rattle.aig_core.specs.Graph.{literal_value}
use Rattle.lane_nets.specs.Words.{values_at}
use Rattle.lane_nets.specs.Wide.{lane_words}
use Rattle.lane_nets.proofs.graph_blocks.set_literals.Given as goal

abbrev pub invariant-loop-i : goal.invariant-loop-i
invariant-loop-i l = (j b i : ℕ) → j < 8 → b < 64 → i < l.i
    → values_at (lane_words l.outputs j) b i ≡ literal_value (values_at (lane_words l.wides j) b) (get_or l.literals (get_or l.net.outputs i 0) 0)
