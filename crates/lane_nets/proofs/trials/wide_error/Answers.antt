use Rattle.std.proofs.Common.{◌%◌, ◌∙◌}
use Rattle.semantics.specs.Error.{error_of}
use Rattle.lane_nets.specs.Lanes.{lane_at}
use Rattle.lane_nets.proofs.trials.wide_error.Goals as goal

pub returns : goal.returns
returns c =
    c.lane_error.ensures
    ∙ (λ i. error_of c.args.metric (lane_at (c.set_lane_words.ensures i) (c.args.p % 64)) (lane_at (c.set_lane_words-2.ensures i) (c.args.p % 64)))
