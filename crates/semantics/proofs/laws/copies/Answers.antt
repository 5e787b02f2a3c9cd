use Rattle.semantics.proofs.Copied.{copied-embedded, copied-acyclic, copied-values}
use Rattle.semantics.proofs.laws.copies.Goals as goal

pub returns : goal.returns
returns c = record { embedded = copied-embedded; acyclic = copied-acyclic; values = copied-values }
