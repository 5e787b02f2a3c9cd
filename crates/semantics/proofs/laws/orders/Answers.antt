use Rattle.std.proofs.Common.{[]}
use Rattle.semantics.proofs.Ordered.{order-exists, order-acyclic, order-count, order-next}
use Rattle.semantics.proofs.laws.orders.Goals as goal

pub returns : goal.returns
returns c = record { exists = order-exists; acyclic = order-acyclic; count = order-count; next = λ n tables order. order-next n tables [] order }
