use Rattle.std.proofs.Common.{length, refl}
use Rattle.miter.proofs.Placed.{is_joinable}
use Rattle.miter.proofs.joint.join_few.Goals as goal

pub join-requires : goal.join-requires
join-requires c =
    is_joinable c.args.exact.now c.args.approx.now c.args.quality.now c.requires.quality.0 (length c.args.exact.now.outputs) c.requires.quality.1
    c.has_few_signals.ensures.exact_sound c.has_few_signals.ensures.approximate_sound c.requires.ports refl c.requires.quality.2
    (c.has_few_signals.ensures.value.0 c.if-has_few_signals.true)
