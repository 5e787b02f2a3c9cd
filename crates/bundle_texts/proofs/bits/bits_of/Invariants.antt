use Rattle.std.proofs.Common.{◌≡◌, take}
use Rattle.bundle_texts.specs.Pieces.{bits_in}
use Rattle.bundle_texts.proofs.bits.bits_of.Given as goal

abbrev pub invariant-loop-digit : goal.invariant-loop-digit
invariant-loop-digit l = l.bits ≡ bits_in (take l.digit-index l.digits)
