use Rattle.lane_nets.proofs.wide_relative.lowest_terms.Goals as goal

pub returns : goal.returns
returns c = λ x y. (
  λ h. (c.reduced.ensures x y).0 ((c.reduced-2.ensures x y).0 h),
  λ h. (c.reduced-2.ensures x y).1 ((c.reduced.ensures x y).1 h),
)
