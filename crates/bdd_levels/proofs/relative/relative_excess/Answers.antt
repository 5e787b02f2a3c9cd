use Rattle.std.proofs.Common.{arith}
use Rattle.bdd_levels.proofs.Ratios.{never_says}
use Rattle.bdd_levels.proofs.relative.relative_excess.Goals as goal

pub returns-then-k-width-clause-says : goal.returns-then-k-width-clause-says
returns-then-k-width-clause-says c =
    never_says c.len-width.result _ _ _ _ _ c.len-width.ensures (omega (arith, c.requires.narrow, c.len-width.ensures)) c.requires.widths c.if-k-width.true c.zero.ensures.value
