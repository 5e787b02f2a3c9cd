use Rattle.net_core.proofs.Changed.{IsWired-sound}
use Rattle.net_core.proofs.net.NetAssemble.assemble.Goals as goal

pub from_sound-requires-clause-wired : goal.from_sound-requires-clause-wired
from_sound-requires-clause-wired c = IsWired-sound _ c.requires.sound c.requires.few_signals c.requires.few_outputs

pub from_sound-requires-clause-acyclic : goal.from_sound-requires-clause-acyclic
from_sound-requires-clause-acyclic c = c.requires.sound.acyclic
