use Rattle.semantics.proofs.Vectors.{number_of-lt}
use Rattle.semantics.proofs.Sizes.{word_error-le, attained_abs, attained_rel, attained_ham, attained_sabs, error_of-lt, largest}
use Rattle.semantics.proofs.laws.sizes.Goals as goal

pub returns : goal.returns
returns c = record {
  number = number_of-lt;
  at_most = word_error-le;
  attained_abs = attained_abs;
  attained_rel = attained_rel;
  attained_ham = attained_ham;
  attained_sabs = attained_sabs;
  below = error_of-lt;
  largest = largest;
}
