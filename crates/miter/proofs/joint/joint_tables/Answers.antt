use Rattle.std.proofs.Common.{arith}
use Rattle.miter.proofs.Placed.{are_copies}
use Rattle.miter.proofs.joint.joint_tables.Goals as goal

pub returns : goal.returns
returns c =
    are_copies c.args.exact.now c.args.approx.now c.args.quality.now.tables c.args.inputs.now c.args.read.now _ _ _ _ _ _ _
    c.requires.outputs c.requires.inputs c.inputs.ensures.value c.signals-first.ensures.value c.requires.read (omega arith)
    c.new-tables.ensures c.in_ok-push_copies.ensures c.in_ok-push_copies-2.ensures c.in_ok-push_copies-3.ensures
