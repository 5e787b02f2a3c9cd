-- by computation
use Rattle.std.proofs.Common.{refl}
use Rattle.semantics.specs.Value.{after_rounds, value_of, outputs_of}
use Rattle.semantics.specs.Error.{error_of, net_error}
use Rattle.semantics.specs.Vectors.{all_vectors}
use Rattle.chain_semantics.specs.Flips.{flipped_outputs}
use Rattle.chain_semantics.proofs.move_examples.flips.Goals as goal

pub returns : goal.returns
unfolding after_rounds value_of outputs_of error_of net_error all_vectors flipped_outputs
returns c = record { values = refl; reader_flipped = refl; read_flipped = refl; sum_flipped = refl; carry_flipped = refl; carry_moved = refl }
