use Rattle.std.proofs.Common.{◌∙◌, ℕ, List, [], get_or, set, ap}
use Rattle.lane_nets.specs.Words.{word_bit}
use Rattle.lane_nets.specs.Numbers.{wide_number}
use Rattle.lane_nets.proofs.WideErrors.{or_lane}
use Rattle.lane_nets.proofs.RelativeErrors.{divisor_is}
use Rattle.lane_nets.proofs.wide_relative.set_divisor.Goals as goal

pub returns : goal.returns
returns c = λ j b lane low.
    ap (λ (l : List (List ℕ)). wide_number (set l 0 c.or_wide.result) j b) c.copy_from_slice.ensures.after
    ∙ divisor_is c.args.number.now c.or_wide.result j b (word_bit (get_or c.some_wide.result j 0) b) c.requires.some
    (or_lane _ _ _ b _ _ (c.or_wide.ensures j lane) (ap (λ (l : List (List ℕ)). word_bit (get_or (get_or l 0 []) j 0) b) c.copy_from_slice.ensures.after) (c.not_wide-none.ensures j b lane low))
    (c.some_wide.ensures j b lane low)
