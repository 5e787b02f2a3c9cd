use Rattle.std.proofs.Common.{◌≡◌}
use Rattle.std.specs.Prelude.{IfSome}
use Rattle.bdd_levels.proofs.decider.best_order.Given as goal

abbrev pub invariant-loop-heuristic : goal.invariant-loop-heuristic
invariant-loop-heuristic l = IfSome l.best (λ d. d ≡ l.exact)
