use Rattle.lane_nets.proofs.WideWords.{not-lane}
use Rattle.lane_nets.proofs.wide_words.not_wide.Goals as goal

pub returns : goal.returns
returns c = λ j b lane low. not-lane c.args.a j b c.fits-a.0 c.fits-a.1 lane low
