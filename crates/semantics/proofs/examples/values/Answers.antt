-- by computation
use Rattle.std.proofs.Common.{refl}
use Rattle.semantics.specs.Value.{after_rounds, value_of, outputs_of}
use Rattle.semantics.specs.Vectors.{all_vectors}
use Rattle.semantics.proofs.examples.values.Goals as goal

pub returns : goal.returns
unfolding after_rounds value_of outputs_of all_vectors
returns c = record {
  half_adder_values = refl;
  out_of_order_values = refl;
  wire_values = refl;
  constant_values = refl;
  counts = (refl, refl);
  counts_after = (refl, refl, refl);
  or_literals = (refl, refl);
}
