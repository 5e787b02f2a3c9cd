use Rattle.std.proofs.Common.{◌≡◌, map, take}
use Rattle.blif_semantics.specs.Tables.{mark_of}
use Rattle.blif_text.proofs.named_table.marks_of_word.Given as goal

abbrev pub invariant-loop-byte : goal.invariant-loop-byte
invariant-loop-byte l = l.row ≡ map mark_of (take l.byte-index l.word)
