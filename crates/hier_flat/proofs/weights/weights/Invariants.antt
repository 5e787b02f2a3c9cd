use Rattle.std.proofs.Common.{◌≡◌, ◌≤◌, length}
use Rattle.hier_flat.specs.Weights.{weight_of}
use Rattle.hier_flat.proofs.Settled.{AreSettled}
use Rattle.hier_flat.proofs.weights.weights.Given as goal

abbrev pub invariant-loop-place : goal.invariant-loop-place
invariant-loop-place l =
    (length l.weights.items ≡ length l.models) × (l.place-index ≤ length l.order) × AreSettled l.models (weight_of l.measure) l.order l.place-index l.weights.items
