use Rattle.lane_bits.proofs.Bits.{grown-push}
use Rattle.lane_bits.proofs.bit_row.BitRow.reach.Goals as goal

pub returns-in_ok-push-clause-grown : goal.returns-in_ok-push-clause-grown
returns-in_ok-push-clause-grown c = grown-push c.self.inside.words.items c.args.self.now c.push.new.self.items c.self.view_is c.in_ok-push.ensures.items
