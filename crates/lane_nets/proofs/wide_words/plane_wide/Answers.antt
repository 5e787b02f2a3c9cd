use Rattle.std.proofs.Common.{get_or, ◌∙◌}
use Rattle.lane_nets.specs.Words.{word_bit}
use Rattle.lane_nets.proofs.WideWords.{not-lane, plane_kept, plane_turned}
use Rattle.lane_nets.proofs.wide_words.plane_wide.Goals as goal
use Rattle.lane_nets.proofs.wide_words.plane_wide.Goals.{then-plane, else-plane}

pub returns : goal.returns
returns c = λ j b lane low. elim c.if-plane.branch [
  | then-plane w ↦ rw w.result-is (plane_kept (word_bit (get_or c.args.any j 0) b) c.args.plane w.if-plane.true)
  | else-plane w ↦
      rw w.result-is
      (not-lane c.args.any j b c.fits-any.0 c.fits-any.1 lane low ∙ plane_turned (word_bit (get_or c.args.any j 0) b) c.args.plane w.if-plane.false)
]
