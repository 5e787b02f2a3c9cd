-- by computation
use Rattle.std.proofs.Common.{refl}
use Rattle.std.specs.Fmt.{digits}
use Rattle.semantics.specs.Refusals.{first_ungrounded}
use Rattle.semantics.specs.Value.{after_rounds, value_of, outputs_of}
use Rattle.semantics.specs.Vectors.{all_vectors}
use Rattle.blif_semantics.specs.Lines.{logical_lines}
use Rattle.hierarchy_semantics.specs.Models.{hierarchy_of}
use Rattle.hierarchy_semantics.specs.ModelLines.{first_wrong}
use Rattle.hierarchy_semantics.specs.Refusals.{hier_refusal}
use Rattle.hierarchy_semantics.specs.Places.{place_value}
use Rattle.hierarchy_semantics.specs.Flat.{flat_items, flat_net, flattened}
use Rattle.hierarchy_semantics.specs.Reading.{hier_reading}
use Rattle.hierarchy_semantics.proofs.examples.full_adder.Goals as goal

pub returns : goal.returns
unfolding digits first_ungrounded after_rounds value_of outputs_of all_vectors logical_lines hierarchy_of first_wrong hier_refusal place_value flat_items flat_net flattened hier_reading
returns c = record {
  flat = refl;
  literals = refl;
  not_bound = refl;
  not_there = refl;
  circle = refl;
  values = refl;
  few_steps = refl;
  outputs = refl;
}
