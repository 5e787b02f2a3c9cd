-- by computation
use Rattle.std.proofs.Common.{refl}
use Rattle.aiger_semantics.proofs.examples.literals.Goals as goal

pub returns : goal.returns
returns c = record { values = refl; opposites = refl }
