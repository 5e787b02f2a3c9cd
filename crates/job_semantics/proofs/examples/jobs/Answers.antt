-- by computation
use Rattle.std.proofs.Common.{refl}
use Rattle.job_semantics.specs.Job.{job_of}
use Rattle.job_semantics.proofs.examples.jobs.Goals as goal

pub returns : goal.returns
unfolding job_of
returns c = record {
  no_words = refl;
  other_word = refl;
  leading_zero = refl;
  large_bound = refl;
  largest_bound = refl;
  no_conflicts = refl;
  many_conflicts = refl;
  other_metric = refl;
  bundle_name = refl;
  wide = refl;
  no_width = refl;
  a_demo = refl;
  a_check = refl;
  a_synth = refl;
  a_signed_synth = refl;
  a_synth_of_bytes = refl;
  no_outputs_in_a_word = refl;
  empty_input = refl;
  empty_stem = refl;
  sign = refl;
  a_flat = refl;
  an_aag = refl;
  a_blif = refl;
  a_trim = refl;
  onto_itself = refl;
  flattened_onto_itself = refl;
  read_back_onto_itself = refl;
  from_nothing = refl;
  into_nothing = refl;
  one_name = refl;
  three_names = refl;
  trimmed_onto_itself = refl;
  trimmed_into_the_bundle = refl;
  trimmed_from_the_bundle = refl;
  trimmed_into_nothing = refl;
  a_certify = refl;
  a_refine = refl;
  certified_itself = refl;
  refined_itself = refl;
  certified_from_the_bundle = refl;
  refined_against_the_bundle = refl;
  no_second = refl;
  a_confirm = refl;
}
