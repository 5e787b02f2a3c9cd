-- by computation
use Rattle.std.proofs.Common.{refl}
use Rattle.std.specs.Fmt.{digits}
use Rattle.semantics.specs.Refusals.{first_ungrounded}
use Rattle.blif_semantics.specs.Lines.{logical_lines}
use Rattle.hierarchy_semantics.specs.Models.{hierarchy_of}
use Rattle.hierarchy_semantics.specs.ModelLines.{first_wrong}
use Rattle.hierarchy_semantics.specs.Refusals.{hier_refusal}
use Rattle.hierarchy_semantics.specs.Flat.{flat_items, flat_net, flattened}
use Rattle.hierarchy_semantics.specs.Reading.{hier_reading}
use Rattle.hierarchy_semantics.proofs.examples.refusals.Goals as goal

pub returns : goal.returns
unfolding digits first_ungrounded logical_lines hierarchy_of first_wrong hier_refusal flat_items flat_net flattened hier_reading
returns c = record {
  too_long = refl;
  empty_text = refl;
  not_a_name = refl;
  without_equals = refl;
  without_formal = refl;
  without_model = refl;
  row_behind_a_use = refl;
  line_behind_end = refl;
  model_behind_end_without_name = refl;
  same_name = refl;
  first_model_is_top = refl;
  uses_itself = refl;
  port_twice = refl;
  port_twice_unused = refl;
  no_port = refl;
  bound_twice = refl;
  not_bound = refl;
  not_split_again = refl;
  driven_twice = refl;
  actual_not_driven = refl;
  in_an_unused_model = refl;
  name_taken = refl;
  name_not_taken = refl;
  name_taken_inside = refl;
  output_left_unbound = refl;
  cycle_through_a_use = refl;
  limit_before_cycle = refl;
}
