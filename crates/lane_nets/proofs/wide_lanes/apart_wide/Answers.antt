use Rattle.std.proofs.Common.{get_or}
use Rattle.semantics.specs.Error.{number_of}
use Rattle.lane_nets.specs.Lanes.{lane_at}
use Rattle.lane_nets.specs.Wide.{lane_words}
use Rattle.lane_nets.proofs.Comparing.{compared_both}
use Rattle.lane_nets.proofs.wide_lanes.apart_wide.Goals as goal

pub returns : goal.returns
returns c = λ j b lane low.
    rw (c.or_wide.ensures j lane)
    (compared_both (number_of (lane_at (lane_words c.args.exact.now j) b)) (number_of (lane_at (lane_words c.args.approx.now j) b)) c.args.level (get_or c.above_wide.result j 0)
    (get_or c.above_wide-2.result j 0) b (c.above_wide.ensures j b lane low) (c.above_wide-2.ensures j b lane low))
