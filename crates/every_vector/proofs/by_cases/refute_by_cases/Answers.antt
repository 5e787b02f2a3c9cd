use Rattle.std.proofs.Common.{ap, arith}
use Rattle.semantics.specs.Net.{input_count}
use Rattle.quality_semantics.proofs.Joint.{joint_inputs}
use Rattle.every_vector.proofs.Cases.{joint_never}
use Rattle.every_vector.proofs.by_cases.refute_by_cases.Goals as goal

pub refute-requires-clause-few_inputs : goal.refute-requires-clause-few_inputs
refute-requires-clause-few_inputs c =
    let nets = c.args.nets.now in
    omega (arith, ap input_count c.in_ok-miter.ensures.net, joint_inputs nets.exact nets.approx c.args.aim.metric c.args.aim.bound, c.requires.few_inputs)

pub refute-requires-clause-always_0 : goal.refute-requires-clause-always_0
refute-requires-clause-always_0 c =
    let nets = c.args.nets.now in
    joint_never c.args.aim.metric nets.exact nets.approx c.args.aim.bound c.see_comparable.ensures c.requires.within c.in_ok-miter.miter.net c.in_ok-miter.ensures.net
