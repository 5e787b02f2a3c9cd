use Rattle.std.proofs.Common.{◌≡◌, ◌++◌, length}
use Rattle.semantics.specs.Texts.{Bytes}
use Rattle.outside_semantics.specs.Outside.{Took}
use Rattle.file_core.proofs.append.put_all.Given as goal

abbrev pub invariant-loop-rest : goal.invariant-loop-rest
invariant-loop-rest g l = (s : Bytes) × (s ++ l.rest ≡ l.text) × Took (g.K.Sink.told l.fn.say) (g.K.Sink.told l.say) s

abbrev pub decreases-loop-rest : goal.decreases-loop-rest
decreases-loop-rest g l = length l.rest
