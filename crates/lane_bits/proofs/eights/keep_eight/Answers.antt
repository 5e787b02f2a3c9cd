use Rattle.lane_bits.proofs.Changed.{eight_kept}
use Rattle.lane_bits.proofs.eights.keep_eight.Goals as goal

pub returns : goal.returns
returns c = eight_kept c.args.at c.args.flips_a c.args.dst.now c.args.a.now c.requires.dst c.requires.a
