use Rattle.std.proofs.Common.{◌≡◌, map, take}
use Rattle.cdcl_core.specs.Rounds.{whole_id}
use Rattle.cdcl_core.proofs.whole_log.whole_ids.Given as goal

abbrev pub invariant-loop-id : goal.invariant-loop-id
invariant-loop-id l = l.whole ≡ map (whole_id l.ids) (take l.id-index l.named)
