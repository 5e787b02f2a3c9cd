use Rattle.std.proofs.Common.{length, ap, ◌∙◌}
use Rattle.semantics.specs.Net.{NetValue}
use Rattle.quality_semantics.proofs.Joint.{joint_outputs}
use Rattle.miter.proofs.level.joint_miter.Goals as goal

pub of_goal-requires-clause-one_output : goal.of_goal-requires-clause-one_output
of_goal-requires-clause-one_output c =
    ap (λ (N : NetValue). length N.outputs) c.in_ok-net.ensures.net ∙ ap length (joint_outputs c.exact.result.now c.approx.result.now c.args.metric c.args.level)
