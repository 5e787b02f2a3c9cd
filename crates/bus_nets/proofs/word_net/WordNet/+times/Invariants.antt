use Rattle.bus_nets.proofs.word_net.WordNet.+times.Given as goal

abbrev pub decreases-times : goal.decreases-times
decreases-times l = l.k
