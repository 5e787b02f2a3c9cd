use Rattle.semantics.proofs.Copied.{appended-acyclic}
use Rattle.semantics.proofs.Grounding.{replaced-acyclic, narrower-acyclic, replaced-reads}
use Rattle.semantics.proofs.laws.acyclic_changes.Goals as goal

pub returns : goal.returns
returns c = record { appended = appended-acyclic; replaced_from = replaced-acyclic; narrower = narrower-acyclic; replaced_reads = replaced-reads }
