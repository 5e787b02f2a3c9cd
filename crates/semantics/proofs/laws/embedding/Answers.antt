use Rattle.semantics.proofs.Embedded.{embedded-values, appended-values}
use Rattle.semantics.proofs.laws.embedding.Goals as goal

pub returns : goal.returns
returns c = record { values = embedded-values; appended = appended-values }
