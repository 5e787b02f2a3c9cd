use Rattle.std.proofs.lemmas.Bool.{OnTrue_at, OnTrue_from}
use Rattle.literal_sums.proofs.Adding.{both_bools, adder_from_all}
use Rattle.literal_sums.proofs.adder.is_adder.Goals as goal

pub returns-then-is_adder_at_four : goal.returns-then-is_adder_at_four
returns-then-is_adder_at_four c =
    OnTrue_from _ _ (λ yes. adder_from_all _ _ (both_bools _ (OnTrue_at c.if-is_adder_at_four.true c.is_adder_at_four.ensures) (OnTrue_at yes c.is_adder_at_four-then-is_adder_at_four.ensures)))
