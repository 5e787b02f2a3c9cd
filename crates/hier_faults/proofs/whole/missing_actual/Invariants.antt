use Rattle.std.proofs.Common.{◌≡◌, not, map, filter, find, drop}
use Rattle.semantics.specs.Refusals.{has_name}
use Rattle.hier_faults.proofs.whole.missing_actual.Given as goal

abbrev pub invariant-loop-b : goal.invariant-loop-b
invariant-loop-b l =
    find (λ name. not (has_name l.driven name)) (map (λ b. b.actual) (filter (λ b. has_name l.model.inputs b.formal) (drop l.b-index l.b-items)))
    ≡ find (λ name. not (has_name l.driven name)) (map (λ b. b.actual) (filter (λ b. has_name l.model.inputs b.formal) l.b-items))
