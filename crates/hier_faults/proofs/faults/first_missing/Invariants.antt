use Rattle.std.proofs.Common.{◌≡◌, not, find, drop}
use Rattle.text_words.specs.Slices.{texts}
use Rattle.semantics.specs.Refusals.{has_name}
use Rattle.hier_faults.proofs.faults.first_missing.Given as goal

abbrev pub invariant-loop-name : goal.invariant-loop-name
invariant-loop-name l = find (λ name. not (has_name l.names name)) (texts (drop l.name-index l.inputs)) ≡ find (λ name. not (has_name l.names name)) (texts l.inputs)
