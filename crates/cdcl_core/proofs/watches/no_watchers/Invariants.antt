use Rattle.std.proofs.Common.{◌≡◌, List, [], map, replicate}
use Rattle.cdcl_core.specs.declared.watches.Watch.{Watch}
use Rattle.cdcl_core.proofs.watches.no_watchers.Given as goal

abbrev pub invariant-loop-list : goal.invariant-loop-list
invariant-loop-list l = map (λ v. v.items) l.made.items ≡ replicate {A = List Watch} l._list []
