use Rattle.literal_sums.proofs.Counting.{swapped_agrees}
use Rattle.literal_sums.proofs.sum.Sum.go_through.Goals as goal

pub returns-clause-same : goal.returns-clause-same
returns-clause-same c = swapped_agrees c.args.g.now c.args.adder.now c.args.weight _ _ c.if-not-is_adder.ensures c.in_ok-swap_adder.ensures
