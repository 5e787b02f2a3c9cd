use Rattle.std.proofs.Common.{◌+◌, ◌∙◌, refl, arith}
use Rattle.miter.proofs.Placed.{placed_quality}
use Rattle.miter.proofs.joint.joint_outputs.Goals as goal

pub returns : goal.returns
returns c =
    let stand = placed_quality c.args.exact.now c.args.approx.now c.args.read.now (c.signals.result + c.tables.result) c.requires.outputs c.requires.read (omega arith) in
    c.in_ok-push_outputs.ensures ∙ rw (c.new-outputs.ensures, stand) refl
