use Rattle.std.specs.Prelude.{bit_xor}
use Rattle.lane_bits.proofs.Changed.{eight_words}
use Rattle.lane_bits.proofs.eights.xor_eight.Goals as goal

pub returns : goal.returns
returns c = eight_words bit_xor c.args.at c.args.dst.now c.args.a.now c.requires.dst c.requires.a
