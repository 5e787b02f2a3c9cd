use Rattle.std.proofs.Common.{max, ap, ◌∙◌}
use Rattle.semantics.specs.Error.{number_of, distance}
use Rattle.lane_nets.specs.Lanes.{lane_at}
use Rattle.lane_nets.proofs.Counting.{relative_told}
use Rattle.lane_nets.proofs.lanes.is_over_relative.Goals as goal

pub returns : goal.returns
returns c =
    let whole = c.lane_value-whole.ensures in
    let other = c.lane_value.ensures in
    relative_told c.args.level (number_of (lane_at c.args.exact.now c.args.b)) (number_of (lane_at c.args.approx.now c.args.b)) c.from.result c.from-2.result c.from-apart.result
    c.from.ensures (c.from-2.ensures ∙ c.max.ensures ∙ ap (λ n. max n 1) whole) (c.from-apart.ensures ∙ c.abs_diff.ensures ∙ (λ i. distance (whole i) (other i)))
