use Rattle.std.proofs.Common.{◌≡◌, [], drop}
use Rattle.text_words.specs.Slices.{texts}
use Rattle.hier_parts.specs.Sets.{with_names}
use Rattle.hier_parts.proofs.names.set_of.Given as goal

abbrev pub invariant-loop-name : goal.invariant-loop-name
invariant-loop-name l = with_names l.all (texts (drop l.name-index l.names)) ≡ with_names [] (texts l.names)
