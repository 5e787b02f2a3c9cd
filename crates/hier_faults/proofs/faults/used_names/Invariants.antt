use Rattle.std.proofs.Common.{◌≡◌, map, take}
use Rattle.text_words.specs.Slices.{texts}
use Rattle.hier_faults.specs.Faults.{uses_value}
use Rattle.hier_faults.proofs.faults.used_names.Given as goal

abbrev pub invariant-loop-c : goal.invariant-loop-c
invariant-loop-c l = texts l.names.items ≡ map (λ c. c.model) (uses_value (take l.c-index l.uses))
