use Rattle.semantics.proofs.FirstFound.{first_doubled-first}
use Rattle.blif_semantics.proofs.FirstRefusals.{first_wrong-first, first_undriven-first, driven-each}
use Rattle.blif_semantics.proofs.laws.first_refusals.Goals as goal

pub returns : goal.returns
returns c = record { wrong_line = first_wrong-first; doubled = first_doubled-first; undriven = first_undriven-first; driven = driven-each }
