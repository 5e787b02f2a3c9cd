use Rattle.miter.proofs.Placed.{is_read}
use Rattle.miter.proofs.joint.signals_read.Goals as goal

pub returns : goal.returns
returns c =
    is_read c.args.exact.now c.args.approx.now c.args.inputs.now _ _ _ _ _ c.requires c.inputs.ensures.value c.signals.ensures.value
    c.new-read.ensures c.in_ok-push_outputs.ensures c.in_ok-push_outputs-2.ensures
