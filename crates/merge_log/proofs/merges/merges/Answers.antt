use Rattle.std.proofs.Common.{subst}
use Rattle.std.specs.Prelude.{IfOk}
use Rattle.semantics.specs.Net.{NetValue}
use Rattle.proof_semantics.specs.Merges.{IsMergeLog}
use Rattle.merge_log.proofs.merges.merges.Goals as goal

pub merge_levels-requires : goal.merge_levels-requires
merge_levels-requires c = rw c.in_ok-placed.ensures c.in_ok-lists.ensures

pub returns : goal.returns
returns c = subst (λ (N : NetValue). IfOk c.merge_levels.result (IsMergeLog N)) c.in_ok-placed.ensures c.merge_levels.ensures
