use Rattle.std.proofs.lemmas.Bool.{OnTrue_at, OnTrue_from}
use Rattle.literal_sums.proofs.Adding.{both_bools}
use Rattle.literal_sums.proofs.adder.is_adder_at_four.Goals as goal

pub returns-then-is_adder_at_two : goal.returns-then-is_adder_at_two
returns-then-is_adder_at_two c =
    OnTrue_from _ _ (λ yes. both_bools _ (OnTrue_at c.if-is_adder_at_two.true c.is_adder_at_two.ensures) (OnTrue_at yes c.is_adder_at_two-then-is_adder_at_two.ensures))
