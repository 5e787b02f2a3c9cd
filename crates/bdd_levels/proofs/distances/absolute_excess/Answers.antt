use Rattle.std.proofs.lemmas.Result.{IfOk-weaker}
use Rattle.bdd_levels.proofs.Subtraction.{absolute_says}
use Rattle.bdd_levels.proofs.distances.absolute_excess.Goals as goal

pub returns-clause-says : goal.returns-clause-says
returns-clause-says c =
    IfOk-weaker c.far_apart.result _ _ (λ s far. absolute_says _ _ _ _ _ _ s c.in_ok-level.ensures.number c.far_apart.ensures.begins far) c.far_apart.ensures.value
