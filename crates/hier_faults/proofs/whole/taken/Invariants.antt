use Rattle.std.proofs.Common.{◌≡◌, find, drop}
use Rattle.text_words.specs.Slices.{texts}
use Rattle.hierarchy_semantics.specs.Refusals.{is_taken}
use Rattle.hier_faults.proofs.whole.taken.Given as goal

abbrev pub invariant-loop-name : goal.invariant-loop-name
invariant-loop-name l = find is_taken (texts (drop l.name-index l.names)) ≡ find is_taken (texts l.names)
