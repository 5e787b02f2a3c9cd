use Rattle.proof_semantics.proofs.Alike.{alike_law}
use Rattle.proof_semantics.proofs.alike_laws.alike_signals.Goals as goal

pub returns : goal.returns
returns c = alike_law
