-- by computation
use Rattle.std.proofs.Common.{refl}
use Rattle.semantics.specs.Value.{after_rounds, value_of, outputs_of}
use Rattle.semantics.specs.Vectors.{all_vectors}
use Rattle.chain_semantics.specs.Moves.{depends_within, near_signals, moves_of}
use Rattle.chain_semantics.proofs.move_examples.pairs.Goals as goal

pub returns : goal.returns
unfolding after_rounds value_of outputs_of all_vectors depends_within near_signals moves_of
returns c = record {
  each_once = refl;
  pairs = refl;
  near = refl;
  cut = refl;
  in_order = refl;
  through_a_table = refl;
  of_two_literals = refl;
  of_one_pin = refl;
  plain = refl;
  flipped = refl;
  same_outputs = refl;
}
