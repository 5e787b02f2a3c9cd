use Rattle.semantics.proofs.Renamed.{renamed-values, redirected-acyclic}
use Rattle.semantics.proofs.laws.renamed_pins.Goals as goal

pub returns : goal.returns
returns c = record { values = renamed-values; acyclic = redirected-acyclic }
