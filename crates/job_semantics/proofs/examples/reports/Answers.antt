-- by computation
use Rattle.std.proofs.Common.{refl}
use Rattle.std.specs.Fmt.{digits}
use Rattle.semantics.specs.Texts.{text_of}
use Rattle.semantics.specs.Vectors.{all_vectors}
use Rattle.job_semantics.specs.Report.{report_text, vectors_text}
use Rattle.job_semantics.proofs.examples.reports.Goals as goal

pub returns : goal.returns
unfolding text_of report_text vectors_text all_vectors digits
returns c = record {
  both_constant_report = refl;
  both_constant_vectors = refl;
  report = refl;
  first_version = refl;
  in_words_of_two = refl;
  in_words_of_64 = refl;
  no_bits = refl;
  vectors = refl;
  empty_vectors = refl;
}
