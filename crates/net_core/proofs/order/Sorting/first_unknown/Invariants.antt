use Rattle.std.proofs.Common.{take, All}
use Rattle.semantics.specs.Order.{IsKnown}
use Rattle.net_core.proofs.order.Sorting.first_unknown.Given as goal

abbrev pub invariant-loop-k : goal.invariant-loop-k
invariant-loop-k l = All (IsKnown l.inputs l.self.order) (take l.k l.pins)
