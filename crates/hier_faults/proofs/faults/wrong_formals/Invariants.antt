use Rattle.std.proofs.Common.{◌≡◌, drop}
use Rattle.hierarchy_semantics.specs.Refusals.{first_found, formal_refusal}
use Rattle.hier_faults.specs.Faults.{uses_value}
use Rattle.hier_faults.proofs.faults.wrong_formals.Given as goal

abbrev pub invariant-loop-c : goal.invariant-loop-c
invariant-loop-c l = first_found (formal_refusal l.models) (uses_value (drop l.c-index l.uses)) ≡ first_found (formal_refusal l.models) (uses_value l.uses)
