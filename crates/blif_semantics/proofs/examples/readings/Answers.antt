-- by computation, and for every text by the law on lengths
use Rattle.std.proofs.Common.{refl}
use Rattle.semantics.specs.declared.limits.TheConstants.{MOST_BUNDLE_BYTES, MOST_INPUT_BYTES}
use Rattle.semantics.specs.Texts.{text_of}
use Rattle.semantics.specs.Blif.{blif_text}
use Rattle.semantics.specs.Refusals.{first_ungrounded}
use Rattle.blif_semantics.specs.Lines.{logical_lines}
use Rattle.blif_semantics.specs.Statements.{first_wrong}
use Rattle.blif_semantics.specs.Reading.{named_net, numbered, blif_reading}
use Rattle.blif_semantics.proofs.Lengths.{long}
use Rattle.blif_semantics.proofs.examples.readings.Goals as goal

pub returns : goal.returns
unfolding text_of blif_text first_ungrounded logical_lines first_wrong named_net numbered blif_reading
returns c = record {
  joined = refl;
  on_a_cycle = refl;
  before_a_cycle = refl;
  not_driven = refl;
  output_not_driven = refl;
  driven_twice = refl;
  input_twice = refl;
  none_listed = refl;
  out_of_order_and_planes = refl;
  without_model = refl;
  a_bad_byte_before_what_is_not_driven = refl;
  a_stray_row_before_what_is_driven_twice = refl;
  too_long = refl;
  as_long_as_may_be = refl;
  too_long_an_input = λ text. long text MOST_INPUT_BYTES;
  too_long_for_a_bundle = λ text. long text MOST_BUNDLE_BYTES;
  empty_text = refl;
  comments = refl;
  many_outputs = refl;
  most_outputs = refl;
  half_adder_back = refl;
  out_of_order_back = refl;
  wire_back = refl;
  constant_back = refl;
}
