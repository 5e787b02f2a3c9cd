-- by computation
use Rattle.std.proofs.Common.{refl}
use Rattle.chain_semantics.specs.Tidy.{tidy_step}
use Rattle.chain_semantics.specs.Tidy.IsReachedFrom.{start, next}
use Rattle.chain_semantics.proofs.tidy_examples.bypasses.Goals as goal

pub returns : goal.returns
unfolding tidy_step
returns c = record {
  past_to_a_table = record { reached = next (next start refl) refl; tidy = refl };
  inverter_of_a_table = record { reached = next (next start refl) refl; tidy = refl };
  buffer_of_a_table = record { reached = next (next start refl) refl; tidy = refl };
  read_twice = record { reached = next (next (next start refl) refl) refl; tidy = refl };
  two_readers = record { reached = next (next start refl) refl; tidy = refl };
}
