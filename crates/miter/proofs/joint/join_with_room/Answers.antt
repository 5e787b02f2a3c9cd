use Rattle.std.proofs.Common.{◌∙◌}
use Rattle.std.proofs.lemmas.Result.{IfOk-weaker}
use Rattle.miter.proofs.joint.join_with_room.Goals as goal

pub join_few-requires : goal.join_few-requires
join_few-requires c = record { ports = c.requires.ports; quality = c.requires.quality }

pub returns-clause-net : goal.returns-clause-net
returns-clause-net c = IfOk-weaker c.with_room.result _ _ (λ n is. is ∙ c.in_ok-join_few.ensures.net) c.with_room.ensures.net
