-- by computation
use Rattle.std.proofs.Common.{refl}
use Rattle.job_semantics.proofs.examples.metrics.Goals as goal

pub returns : goal.returns
returns c = record {
  all_outputs = refl;
  single_outputs = refl;
  nine_outputs = refl;
  most_outputs = refl;
  no_width = refl;
  zero = refl;
  leading_zero = refl;
  wide = refl;
  two_widths = refl;
  other_kind = refl;
  no_kind = refl;
  blank = refl;
  no_bytes = refl;
}
