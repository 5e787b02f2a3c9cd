use Rattle.std.proofs.Common.{ap, ◌∙◌}
use Rattle.std.proofs.lemmas.Result.{IfOk-weaker}
use Rattle.quality_semantics.specs.Quality.{quality_net}
use Rattle.miter.proofs.Placed.{joined_is, tells_error}
use Rattle.miter.proofs.joint.joint.Goals as goal

pub join_with_room-requires-clause-quality : goal.join_with_room-requires-clause-quality
join_with_room-requires-clause-quality c =
    (c.args.metric, c.args.k, c.in_ok-quality.ensures ∙ ap (λ w. quality_net c.args.metric w c.args.k) c.outputs.ensures.value)

pub returns-clause-net : goal.returns-clause-net
returns-clause-net c =
    IfOk-weaker c.join_with_room.result _ _
    (λ n is. is ∙ joined_is c.args.exact.now c.args.approx.now c.in_ok-quality.quality c.args.metric c.outputs.result c.args.k c.outputs.ensures.value c.in_ok-quality.ensures)
    c.join_with_room.ensures.net

pub returns-clause-output : goal.returns-clause-output
returns-clause-output c =
    IfOk-weaker c.join_with_room.result _ _
    (λ n is. tells_error c.args.metric c.args.exact.now c.args.approx.now c.args.k n
    (is ∙ joined_is c.args.exact.now c.args.approx.now c.in_ok-quality.quality c.args.metric c.outputs.result c.args.k c.outputs.ensures.value c.in_ok-quality.ensures)
    c.join_with_room.ensures.exact_sound c.join_with_room.ensures.approximate_sound c.requires.ports)
    c.join_with_room.ensures.net
