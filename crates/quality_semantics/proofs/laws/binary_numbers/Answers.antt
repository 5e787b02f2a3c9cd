use Rattle.std.proofs.Common.{refl}
use Rattle.quality_semantics.proofs.Binary.{number_of-binary, binary_none, highest_bit}
use Rattle.quality_semantics.proofs.laws.binary_numbers.Goals as goal

pub returns : goal.returns
returns c = record { number = number_of-binary; none = binary_none 0 refl; highest = highest_bit }
