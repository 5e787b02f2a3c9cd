use Rattle.hierarchy_semantics.proofs.Flattened.{net_is, net_small, net_places, net_outputs}
use Rattle.hierarchy_semantics.proofs.Sound.{net_sound}
use Rattle.hierarchy_semantics.proofs.laws.flat_nets.Goals as goal

pub returns : goal.returns
returns c = record { is_flat = net_is; sound = net_sound; small = net_small; places = net_places; outputs = net_outputs }
