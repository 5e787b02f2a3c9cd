use Rattle.std.proofs.Common.{◌+◌}
use Rattle.std.proofs.lemmas.Bool.{OnTrue_at, OnTrue_from}
use Rattle.literal_sums.proofs.Adding.{known_adder}
use Rattle.literal_sums.proofs.adder.is_adder_at.Goals as goal

pub returns-then-is_known : goal.returns-then-is_known
returns-then-is_known c =
    OnTrue_from _ _ (λ yes.
    known_adder c.args.g.now c.args.adder.now c.args.first c.args.second c.args.third _ _ _
    (λ i. c.as_number.ensures i + c.as_number-2.ensures i + c.as_number-3.ensures i) c.value_above.ensures c.value_above-then-is_known.ensures
    (OnTrue_at c.if-is_known.true c.is_known.ensures) (OnTrue_at yes c.is_known-then-is_known.ensures))
