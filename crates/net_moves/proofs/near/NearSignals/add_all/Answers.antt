use Rattle.std.proofs.Common.{◌∙◌}
use Rattle.std.proofs.lemmas.List.{take_more}
use Rattle.net_moves.proofs.NearOnes.{first_once-step}
use Rattle.net_moves.proofs.near.NearSignals.add_all.Goals as goal

pub loop-s-preserved : goal.loop-s-preserved
loop-s-preserved c = λ before is.
    c.add.ensures
    ∙ first_once-step before c.args.signals.now c.loop-s.self c.loop-s.s-index _ c.loop-s-test.true
    (take_more c.args.signals.now c.loop-s.s-index _ c.loop-s-test.true) (c.loop-s.invariant before is)
