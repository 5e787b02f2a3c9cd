use Rattle.std.proofs.Common.{sym}
use Rattle.demo_adder.proofs.Parts.{stages_more}
use Rattle.demo_adder.proofs.adder.adder_tables.Goals as goal

pub loop-stage-preserved : goal.loop-stage-preserved
loop-stage-preserved c = rw (c.in_ok-push_stage.ensures, c.loop-stage.invariant) (sym (stages_more c.args.width c.loop-stage.stage))
