use Rattle.bdd_nets.proofs.splits.+split.Given as goal

abbrev pub decreases-split : goal.decreases-split
decreases-split l = l.splits
