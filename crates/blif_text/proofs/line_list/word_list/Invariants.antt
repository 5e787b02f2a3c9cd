use Rattle.std.proofs.Common.{◌≡◌, take}
use Rattle.text_words.specs.Slices.{texts}
use Rattle.blif_text.proofs.line_list.word_list.Given as goal

abbrev pub invariant-loop-word : goal.invariant-loop-word
invariant-loop-word l = l.list ≡ texts (take l.word-index l.words)
