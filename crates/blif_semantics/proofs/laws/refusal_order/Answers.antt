use Rattle.blif_semantics.proofs.RefusalOrder.{of-doubled, of-no_output, of-undriven, of-cycle, of-limit, of-accepted, of-wrong_line}
use Rattle.blif_semantics.proofs.laws.refusal_order.Goals as goal

pub returns : goal.returns
returns c = record {
  of_doubled = of-doubled;
  of_no_output = of-no_output;
  of_undriven = of-undriven;
  of_cycle = of-cycle;
  of_limit = of-limit;
  accepted = of-accepted;
  of_wrong_line = of-wrong_line;
}
