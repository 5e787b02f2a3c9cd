use Rattle.literal_sums.proofs.adder.+value_above.Given as goal

abbrev pub decreases-value_above : goal.decreases-value_above
decreases-value_above l = l.depth
