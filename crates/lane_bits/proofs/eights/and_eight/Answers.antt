use Rattle.lane_bits.proofs.Changed.{eight_conjunctions}
use Rattle.lane_bits.proofs.eights.and_eight.Goals as goal

pub returns : goal.returns
returns c = eight_conjunctions c.args.at c.args.flips_a c.args.flips_b c.args.dst.now c.args.a.now c.args.b.now c.requires.dst c.requires.a c.requires.b
