use Rattle.std.proofs.Common.{rules, ◌∙◌, ap, sym}
use Rattle.lane_bits.proofs.Bits.{flips}
use Rattle.lane_nets.proofs.Comparing.{compared_words}
use Rattle.lane_nets.proofs.lanes.compare_bit.Goals as goal
use Rattle.lane_nets.proofs.lanes.compare_bit.Goals.{then-one, else-one}

pub returns : goal.returns
returns c =
    compared_words c.args.low c.args.high c.if-one.constant c.args.so_far.carry c.args.so_far.above c.args.one
    (elim c.if-one.branch [
      | then-one w ↦ w.constant-is ∙ sym (ap flips w.if-one.true)
      | else-one w ↦ w.constant-is ∙ sym (ap flips w.if-one.false)
    ])
    (search rules) (search rules) (search rules)
