use Rattle.std.proofs.Common.{take}
use Rattle.std.specs.Fmt.{HasWritten, IsPlainFormatter}
use Rattle.semantics.specs.Texts.{bits_word}
use Rattle.job_answers.proofs.bits_text.BitsTextDisplay.fmt.Given as goal

abbrev pub invariant-loop-bit : goal.invariant-loop-bit
invariant-loop-bit g l =
    IsPlainFormatter l.fn.f → HasWritten g.W.Write.write_str_gives l.fn.f (bits_word (take l.bit-index l.fn.self.0.now)) l.f
