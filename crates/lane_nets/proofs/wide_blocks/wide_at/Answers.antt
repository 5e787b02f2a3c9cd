use Rattle.lane_nets.proofs.WideWords.{wide_part}
use Rattle.lane_nets.proofs.wide_blocks.wide_at.Goals as goal

pub returns-then-rest-ge8 : goal.returns-then-rest-ge8
returns-then-rest-ge8 c = λ j lane. wide_part c.args.row.now c.args.from j c.if-rest-ge8.true lane
