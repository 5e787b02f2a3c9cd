-- by computation
use Rattle.std.proofs.Common.{refl}
use Rattle.chain_semantics.specs.Tidy.{tidy_step}
use Rattle.chain_semantics.specs.Tidy.IsReachedFrom.{start, next}
use Rattle.chain_semantics.proofs.tidy_examples.order.Goals as goal

pub returns : goal.returns
unfolding tidy_step
returns c = record {
  dashes_first = record { reached = next start refl; tidy = refl };
  constant_by_plane = record { reached = next (next (next start refl) refl) refl; tidy = refl };
  joined = record { reached = next start refl; tidy = refl };
  inverter_by_plane = record { reached = next (next start refl) refl; tidy = refl };
  buffer_by_plane = record { reached = next (next start refl) refl; tidy = refl };
  no_row_left = record { reached = next (next start refl) refl; tidy = refl };
  no_row_left_plane_0 = record { reached = next (next start refl) refl; tidy = refl };
  outputs_stay = record { reached = start; tidy = refl };
}
