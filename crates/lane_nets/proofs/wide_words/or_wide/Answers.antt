use Rattle.std.specs.Prelude.{bit_or}
use Rattle.lane_nets.proofs.WideWords.{zip2-lane}
use Rattle.lane_nets.proofs.wide_words.or_wide.Goals as goal

pub returns : goal.returns
returns c = λ j lane. zip2-lane bit_or c.args.a c.args.b j c.fits-a.0 c.fits-b.0 lane
