use Rattle.std.proofs.Common.{◌≡◌, ◌++◌, take}
use Rattle.bundle.proofs.vectors_check.VectorsCheckIntake.take.Given as goal

abbrev pub invariant-loop-byte : goal.invariant-loop-byte
invariant-loop-byte l = record {
  text : l.self.text ≡ l.fn.self.text ++ take l.byte-index l.piece;
  asked : l.self.asked ≡ l.fn.self.asked;
}
