use Rattle.std.proofs.Common.{ℕ, List, refl, ap, ◌∙◌, arith}
use Rattle.semantics.specs.Error.{sign_flipped}
use Rattle.lane_nets.specs.Lanes.{lane_at}
use Rattle.lane_nets.specs.Wide.{lane_words}
use Rattle.lane_nets.proofs.WideErrors.{wide-turned, wide-turned_none}
use Rattle.lane_nets.proofs.wide_lanes.set_turned_wide.Goals as goal

pub returns-then-count-gt0 : goal.returns-then-count-gt0
returns-then-count-gt0 c = λ j b lane low.
    wide-turned c.copy_from_slice.new.self j b _ c.not_wide.result (omega (arith, c.if-count-gt0.true)) refl (c.not_wide.ensures j b lane low)
    ∙ ap (λ (l : List (List ℕ)). sign_flipped (lane_at (lane_words l j) b)) c.copy_from_slice.ensures.after

pub returns-else-count-gt0 : goal.returns-else-count-gt0
returns-else-count-gt0 c = λ j b lane low.
    wide-turned_none c.copy_from_slice.new.self j b (omega (arith, c.if-count-gt0.false))
    ∙ ap (λ (l : List (List ℕ)). sign_flipped (lane_at (lane_words l j) b)) c.copy_from_slice.ensures.after
