use Rattle.std.proofs.Common.{◌≡◌, ℕ, ◌<◌, Bool, List, length}
use Rattle.semantics.specs.Net.{NetValue}
use Rattle.chain_semantics.specs.Care.{IsCaredFor}
use Rattle.lane_nets.specs.Blocks.{row_at, IsRowWhere, AreBlocksOf}
use Rattle.lane_nets.specs.Lanes.{AreOutputWordsOf}
use Rattle.care_masks.proofs.care.care_rows.Given as goal

abbrev pub invariant-loop-t : goal.invariant-loop-t
invariant-loop-t l =
    (length l.rows ≡ l.t)
    × ((exact : NetValue) (vectors : List (List Bool)) → length vectors ≡ l.limit.count → AreOutputWordsOf exact vectors l.limit.outputs → AreBlocksOf l.net vectors l.blocks
    → (t : ℕ) → t < l.t → IsRowWhere vectors (IsCaredFor l.limit.metric exact l.limit.level l.net t) (row_at l.rows t))
