use Rattle.std.proofs.Common.{◌≡◌, take}
use Rattle.text_words.specs.Slices.{texts}
use Rattle.blif_text.proofs.name_list.name_list.Given as goal

abbrev pub invariant-loop-word : goal.invariant-loop-word
invariant-loop-word l = l.names ≡ texts (take l.word-index l.words)
