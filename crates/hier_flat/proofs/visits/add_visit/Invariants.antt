use Rattle.std.proofs.Common.{◌≡◌}
use Rattle.std.specs.List.{AllByRecursion}
use Rattle.hier_flat.specs.Visits.{with_visit, with_visits, IsVisit}
use Rattle.hier_flat.proofs.visits.add_visit.Given as goal

abbrev pub invariant-loop-turn : goal.invariant-loop-turn
invariant-loop-turn l =
    AllByRecursion (IsVisit l.plans) l.stack.items × (with_visits l.plans l.inputs l.stack.items l.tables ≡ with_visit l.plans l.inputs l.fn.visit l.initial.tables)
