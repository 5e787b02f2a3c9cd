use Rattle.std.proofs.Common.{◌≡◌, take, drop, map}
use Rattle.blif_semantics.specs.Reading.{signal_named}
use Rattle.blif_text.specs.Names.{first_unknown}
use Rattle.text_words.specs.Slices.{texts}
use Rattle.blif_text.proofs.names.Names.numbers.Given as goal

abbrev pub invariant-loop-word : goal.invariant-loop-word
invariant-loop-word l = record {
  all : l.signals ≡ map (signal_named l.self) (texts (take l.word-index l.words));
  same : first_unknown l.self (texts (drop l.word-index l.words)) ≡ first_unknown l.self (texts l.words);
}
