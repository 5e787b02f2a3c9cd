use Rattle.semantics.proofs.Vectors.{length-all_vectors, slice_get-all_vectors, length-bits_of, number_of-bits_of, number_of-lt_width, slice_get-number_of}
use Rattle.semantics.proofs.laws.vectors.Goals as goal

pub returns : goal.returns
returns c = record {
  count = length-all_vectors;
  at = slice_get-all_vectors;
  width = length-bits_of;
  number = number_of-bits_of;
  place = number_of-lt_width;
  each = slice_get-number_of;
}
