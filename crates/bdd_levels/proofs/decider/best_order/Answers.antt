use Rattle.bdd_levels.proofs.decider.best_order.Goals as goal

pub loop-heuristic-preserved : goal.loop-heuristic-preserved
loop-heuristic-preserved c = c.better-kept.ensures c.args.exact.now c.loop-heuristic.invariant c.in_ok-found.ensures
