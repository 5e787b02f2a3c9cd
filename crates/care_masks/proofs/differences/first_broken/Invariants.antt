use Rattle.std.proofs.Common.{ℕ, ◌*◌, ◌<◌, Bool, List, length}
use Rattle.semantics.specs.Net.{NetValue}
use Rattle.semantics.specs.declared.metric.Metric.{Metric}
use Rattle.chain_semantics.specs.Moves.{table_of}
use Rattle.chain_semantics.specs.Care.{IsCaredFor, Exceeds, IsBrokenAt}
use Rattle.lane_nets.specs.Blocks.{vector_at, IsRowWhere, AreBlocksOf}
use Rattle.care_masks.proofs.differences.first_broken.Given as goal

abbrev pub invariant-loop-k : goal.invariant-loop-k
invariant-loop-k l =
    (metric : Metric) (exact : NetValue) (bound : ℕ) (vectors : List (List Bool)) → AreBlocksOf l.net vectors l.blocks
    → IsRowWhere vectors (IsCaredFor metric exact bound l.net (table_of l.a_move)) l.care
    → IsRowWhere vectors (Exceeds metric exact bound l.net) l.exceeds
    → (p : ℕ) → p < 64 * l.k → p < length vectors → ¬ IsBrokenAt metric exact bound l.net l.a_move (vector_at vectors p)
