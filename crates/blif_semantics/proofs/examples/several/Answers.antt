-- by computation
use Rattle.std.proofs.Common.{refl}
use Rattle.semantics.specs.Refusals.{first_ungrounded}
use Rattle.blif_semantics.specs.Lines.{logical_lines}
use Rattle.blif_semantics.specs.Statements.{first_wrong}
use Rattle.blif_semantics.specs.Reading.{named_net, numbered, blif_reading}
use Rattle.blif_semantics.proofs.examples.several.Goals as goal

pub returns : goal.returns
unfolding first_ungrounded logical_lines first_wrong named_net numbered blif_reading
returns c = record {
  several_lists = refl;
  words_that_go_on = refl;
  rows_of_two_tables = refl;
  twice_before_no_output = refl;
  first_of_two_doubled = refl;
  first_of_three_undriven = refl;
  cycle_before_limit = refl;
  undriven_before_limit = refl;
}
