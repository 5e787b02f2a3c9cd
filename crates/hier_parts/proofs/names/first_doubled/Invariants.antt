use Rattle.std.proofs.Common.{◌≡◌, drop}
use Rattle.semantics.specs.Refusals.{first_doubled, first_doubled_after}
use Rattle.text_words.specs.Slices.{texts}
use Rattle.hier_parts.proofs.names.first_doubled.Given as goal

abbrev pub invariant-loop-name : goal.invariant-loop-name
invariant-loop-name l = first_doubled_after l.all (texts (drop l.name-index l.names)) ≡ first_doubled (texts l.names)
