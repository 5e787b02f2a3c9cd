use Rattle.std.proofs.Common.{◌≡◌, ℕ, ◌<◌, Bool, List, length, get_or}
use Rattle.chain_semantics.specs.Care.{Changes}
use Rattle.lane_nets.specs.Blocks.{AreBlocksOf, IsWordWhere}
use Rattle.care_masks.proofs.differences.set_differences.Given as goal

abbrev pub invariant-loop-k : goal.invariant-loop-k
invariant-loop-k l =
    (vectors : List (List Bool)) → length vectors ≡ l.count → AreBlocksOf l.net vectors l.blocks
    → (j : ℕ) → j < l.k → IsWordWhere vectors (Changes l.net l.a_move) j (get_or l.row j 0)
