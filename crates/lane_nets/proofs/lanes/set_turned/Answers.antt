use Rattle.std.proofs.Common.{ℕ, List, rules, ap, ◌∙◌}
use Rattle.semantics.specs.Error.{sign_flipped}
use Rattle.lane_nets.specs.Lanes.{lane_at}
use Rattle.lane_nets.proofs.LaneErrors.{lane-turned}
use Rattle.lane_nets.proofs.lanes.set_turned.Goals as goal

pub returns-in-Some : goal.returns-in-Some
returns-in-Some c =
    λ b low. lane-turned c.copy_from_slice.new.self b c.in-Some.last.now low c.in-Some.ensures.item.3.0 (search rules) (c.in-Some.ensures.item.3.1 0)
    ∙ ap (λ (words : List ℕ). sign_flipped (lane_at words b)) c.copy_from_slice.ensures.after
