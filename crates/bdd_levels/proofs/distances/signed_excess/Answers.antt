use Rattle.std.proofs.lemmas.Result.{IfOk-weaker}
use Rattle.bdd_levels.proofs.Subtraction.{signed_says}
use Rattle.bdd_levels.proofs.distances.signed_excess.Goals as goal

pub returns-clause-says : goal.returns-clause-says
returns-clause-says c =
    IfOk-weaker c.far_apart.result _ _ (λ s far. signed_says _ _ _ _ _ _ _ _ _ s c.requires.widths c.in_ok-flipped_exact.ensures.number c.in_ok-flipped_approximate.ensures.begins
    c.in_ok-flipped_approximate.ensures.number c.in_ok-level.ensures.number c.far_apart.ensures.begins far) c.far_apart.ensures.value
