use Rattle.std.proofs.lemmas.Result.{IfOk-weaker}
use Rattle.bdd_levels.proofs.Ratios.{ratio_says}
use Rattle.bdd_levels.proofs.relative.ratio_excess.Goals as goal

pub returns-clause-says : goal.returns-clause-says
returns-clause-says c =
    IfOk-weaker c.far_apart.result _ _ (λ s far k is. ratio_says k _ _ _ _ _ _ _ _ s c.requires.some c.in_ok-divisor.ensures.number c.in_ok-level.ensures.begins c.in_ok-level.ensures.number
    c.far_apart.ensures.begins far is) c.far_apart.ensures.value
