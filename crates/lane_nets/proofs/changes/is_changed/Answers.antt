use Rattle.std.proofs.Common.{true, false, Bool, ◌≡◌, not, sym, ◌∙◌}
use Rattle.lane_nets.proofs.changes.is_changed.Goals as goal

pub returns : goal.returns
returns c = λ same j lane. sym (c.wide_at-2.ensures j lane) ∙ c.are_equal.ensures (equal c.are_equal.result same) j lane ∙ c.wide_at.ensures j lane
  where
    equal : (b : Bool) → not b ≡ false → b ≡ true
    equal true h = λ i. true
    equal false h = absurd cc
