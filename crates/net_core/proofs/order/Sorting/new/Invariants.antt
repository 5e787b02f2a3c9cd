use Rattle.std.proofs.Common.{◌≡◌, map, replicate, []}
use Rattle.net_core.proofs.order.Sorting.new.Given as goal

abbrev pub invariant-loop : goal.invariant-loop
invariant-loop l = map (λ v. v.items) l.waiters.items ≡ replicate l.counter []
