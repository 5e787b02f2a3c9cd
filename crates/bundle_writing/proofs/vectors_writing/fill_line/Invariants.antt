use Rattle.std.proofs.Common.{◌≡◌, take}
use Rattle.semantics.specs.Texts.{bits_word}
use Rattle.bundle_writing.proofs.vectors_writing.fill_line.Given as goal

abbrev pub invariant-loop-i : goal.invariant-loop-i
invariant-loop-i l = take l.i l.line ≡ bits_word (take l.i l.x)
