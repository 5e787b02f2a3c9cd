-- by computation
use Rattle.std.proofs.Common.{refl}
use Rattle.semantics.proofs.examples.limits.Goals as goal

pub returns : goal.returns
returns c = record {
  inputs = (refl, refl);
  outputs = (refl, refl);
  tables = (refl, refl);
  pins = (refl, refl);
  all_pins = (refl, refl);
  rows = (refl, refl);
  all_together = refl;
  largest_error = (refl, refl);
}
