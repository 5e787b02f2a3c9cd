use Rattle.std.proofs.Common.{◌≡◌, take, drop}
use Rattle.semantics.specs.Refusals.{first_doubled, first_doubled_after}
use Rattle.text_words.specs.Slices.{texts}
use Rattle.blif_text.proofs.names.Names.of.Given as goal

abbrev pub invariant-loop-name : goal.invariant-loop-name
invariant-loop-name l = record {
  all : l.all ≡ texts (take l.name-index l.names);
  same : first_doubled_after l.all (texts (drop l.name-index l.names)) ≡ first_doubled (texts l.names);
}
