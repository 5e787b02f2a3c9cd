use Rattle.blif_semantics.proofs.Numbered.{driven_parts, undriven_name}
use Rattle.blif_semantics.proofs.laws.named_nets.Goals as goal

pub returns : goal.returns
returns c = record { driven = driven_parts; undriven = undriven_name }
