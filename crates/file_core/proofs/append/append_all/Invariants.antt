use Rattle.std.proofs.Common.{◌≡◌, ◌++◌, length}
use Rattle.semantics.specs.Texts.{Bytes}
use Rattle.outside_semantics.specs.Outside.{Wrote}
use Rattle.file_core.proofs.append.append_all.Given as goal

abbrev pub invariant-loop-rest : goal.invariant-loop-rest
invariant-loop-rest g l = (s : Bytes) × (s ++ l.rest ≡ l.text) × Wrote (g.F.Files.told l.fn.files) (g.F.Files.told l.files) s

abbrev pub decreases-loop-rest : goal.decreases-loop-rest
decreases-loop-rest g l = length l.rest
