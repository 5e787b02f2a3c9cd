use Rattle.std.specs.Prelude.{bit_or}
use Rattle.lane_bits.proofs.Changed.{eight_words}
use Rattle.lane_bits.proofs.eights.or_eight.Goals as goal

pub returns : goal.returns
returns c = eight_words bit_or c.args.at c.args.dst.now c.args.a.now c.requires.dst c.requires.a
