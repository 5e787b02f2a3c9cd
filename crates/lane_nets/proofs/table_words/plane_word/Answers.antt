use Rattle.std.proofs.Common.{rules}
use Rattle.lane_nets.proofs.WordBits.{plane_false}
use Rattle.lane_nets.proofs.table_words.plane_word.Goals as goal

pub returns-else-plane : goal.returns-else-plane
returns-else-plane c = λ b low. plane_false c.args.any b c.args.plane (search rules) low c.if-plane.false
