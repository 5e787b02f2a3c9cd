use Rattle.lane_bits.proofs.Bits.{bit-written}
use Rattle.lane_bits.proofs.bit_row.BitRow.set.Goals as goal

pub returns-clause-bits : goal.returns-clause-bits
returns-clause-bits c =
    bit-written c.self.inside.words.items c.args.self.now c.args.p c.index_mut.result.now c.self.view_is c.requires c.index_mut.ensures.value
