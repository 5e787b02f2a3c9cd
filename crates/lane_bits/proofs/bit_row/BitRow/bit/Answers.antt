use Rattle.lane_bits.proofs.Bits.{bit-read}
use Rattle.lane_bits.proofs.bit_row.BitRow.bit.Goals as goal

pub returns : goal.returns
returns c = bit-read c.self.inside.words.items c.args.self.now c.args.p c.index.result.now c.self.view_is c.requires c.index.ensures
