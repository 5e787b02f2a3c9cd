use Rattle.std.proofs.Common.{refl}
use Rattle.semantics.specs.Vectors.{all_vectors}
use Rattle.lane_bits.specs.Rows.{row_bit}
use Rattle.lane_bits.proofs.examples.patterns.Goals as goal

pub returns : goal.returns
unfolding row_bit all_vectors
returns c = record { counting = refl; placed = refl; bits = refl }
