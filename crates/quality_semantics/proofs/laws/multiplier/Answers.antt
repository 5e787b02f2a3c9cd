use Rattle.quality_semantics.proofs.Multiply.{multiply_number, multiplier_multiplies}
use Rattle.quality_semantics.proofs.laws.multiplier.Goals as goal

pub returns : goal.returns
returns c = record { multiply = multiply_number; multiplier = multiplier_multiplies }
