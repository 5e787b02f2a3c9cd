use Rattle.std.proofs.Common.{◌≡◌, take}
use Rattle.text_words.specs.Slices.{texts}
use Rattle.hier_parts.proofs.statements.slices.Given as goal

abbrev pub invariant-loop-word : goal.invariant-loop-word
invariant-loop-word l = texts l.slices.items ≡ take l.word-index l.word-items
