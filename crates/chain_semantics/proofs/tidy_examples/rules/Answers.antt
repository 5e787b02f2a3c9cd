-- by computation
use Rattle.std.proofs.Common.{refl}
use Rattle.chain_semantics.specs.Tidy.{tidy_step}
use Rattle.chain_semantics.specs.Tidy.IsReachedFrom.{start, next}
use Rattle.chain_semantics.proofs.tidy_examples.rules.Goals as goal

pub returns : goal.returns
unfolding tidy_step
returns c = record {
  zero_by_plane = record { reached = next start refl; tidy = refl };
  no_rows = record { reached = next start refl; tidy = refl };
  two_inverters = record { reached = next (next start refl) refl; tidy = refl };
  both_values = record { reached = next start refl; tidy = refl };
  both_values_plane_0 = record { reached = next start refl; tidy = refl };
  constant_pin = record { reached = next (next start refl) refl; tidy = refl };
  dashed_pin = record { reached = next start refl; tidy = refl };
}
