use Rattle.bdd_levels.proofs.Farey.{closely}
use Rattle.bdd_levels.proofs.relative.ratio_for.Goals as goal

pub returns-then-are_fine : goal.returns-then-are_fine
returns-then-are_fine c =
    closely c.args.width c.args.k c.around.result.0 c.around.result.1 (c.is_at_most.ensures c.if-is_at_most.true) (c.is_above.ensures c.if-is_above.true)
    (c.are_neighbours.ensures c.if-are_neighbours.true) (c.are_fine.ensures c.if-are_fine.true)
