-- by computation
use Rattle.std.proofs.Common.{refl}
use Rattle.chain_semantics.specs.Moves.{depends_within, near_signals, moves_of, old_moves_of}
use Rattle.chain_semantics.proofs.move_examples.moves.Goals as goal

pub returns : goal.returns
unfolding depends_within near_signals moves_of old_moves_of
returns c = record {
  of_half_adder = refl;
  old_ones_of_half_adder = refl;
  of_constants = refl;
  of_inverters = refl;
  of_a_read_table = refl;
  on_a_table = refl;
  through_a_reader = refl;
  made_constant = refl;
  row_dropped = refl;
  literal_dropped = refl;
  copied = refl;
  copied_flipped = refl;
}
