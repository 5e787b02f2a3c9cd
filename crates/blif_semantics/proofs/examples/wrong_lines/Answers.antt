-- by computation
use Rattle.std.proofs.Common.{refl}
use Rattle.blif_semantics.specs.Lines.{logical_lines}
use Rattle.blif_semantics.specs.Statements.{first_wrong}
use Rattle.blif_semantics.proofs.examples.wrong_lines.Goals as goal

pub returns : goal.returns
unfolding logical_lines first_wrong
returns c = record {
  other_command = refl;
  stray = refl;
  stray_after_another_statement = refl;
  short_row = refl;
  one_word = refl;
  two_words_without_pins = refl;
  other_mark = refl;
  dash_as_plane = refl;
  mixed = refl;
  backslash = refl;
  no_names = refl;
  model_after_end = refl;
  second = refl;
  second_and_without_name = refl;
  model_without_name = refl;
  model_with_two_names = refl;
  form_feed = refl;
  bad_byte_before_after_end = refl;
  after_end_before_bad_byte = refl;
  first_physical_line = refl;
  number_of_the_first_line = refl;
  any_byte_in_a_comment = refl;
  good = refl;
  leading_blank = refl;
}
