use Rattle.std.proofs.Common.{◌≡◌, not, find, drop}
use Rattle.hier_faults.specs.Faults.{uses_value}
use Rattle.semantics.specs.Refusals.{has_name}
use Rattle.hier_faults.proofs.faults.unknown.Given as goal

abbrev pub invariant-loop-c : goal.invariant-loop-c
invariant-loop-c l = find (λ c. not (has_name l.names c.model)) (uses_value (drop l.c-index l.uses)) ≡ find (λ c. not (has_name l.names c.model)) (uses_value l.uses)
