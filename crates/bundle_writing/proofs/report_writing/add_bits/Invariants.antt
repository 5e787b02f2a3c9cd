use Rattle.std.proofs.Common.{◌≡◌, ◌+◌, ◌++◌, length, take}
use Rattle.semantics.specs.Texts.{bits_word}
use Rattle.bundle_writing.proofs.report_writing.add_bits.Given as goal

abbrev pub invariant-loop-bit : goal.invariant-loop-bit
invariant-loop-bit l = record {
  bytes : l.text.bytes ≡ l.initial.text.bytes ++ bits_word (take l.bit-index l.bits);
  len : length l.text.bytes ≡ length l.initial.text.bytes + l.bit-index;
}
