use Rattle.bdd_levels.proofs.Finished.{level_told}
use Rattle.bdd_levels.proofs.level.quality.Goals as goal

pub returns : goal.returns
returns c = level_told c.args.metric c.args.width c.args.k _ _ _ c.in_ok-output.ensures.says c.in_ok-made.ensures c.see_sound.ensures.sound
