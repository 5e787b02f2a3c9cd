use Rattle.bus_nets.proofs.Parts.{parts_sound, parts_few}
use Rattle.bus_nets.proofs.word_net.WordNet.finish.Goals as goal

pub assemble-requires-clause-sound : goal.assemble-requires-clause-sound
assemble-requires-clause-sound N c =
    parts_sound _ _ _ _ _ _ c.self.invariant c.self.view_is c.in_ok-outputs.ensures c.requires.some c.requires.outputs_in c.in_ok-model.ensures c.in_ok-names.ensures

pub assemble-requires-clause-few_signals : goal.assemble-requires-clause-few_signals
assemble-requires-clause-few_signals N c = parts_few _ _ c.self.invariant c.in_ok-names.ensures
