use Rattle.std.proofs.Common.{refl}
use Rattle.chain_semantics.proofs.SameNets.{IsWithin-same}
use Rattle.synth_core.proofs.shrink.shrink.Goals as goal

pub new-nets-requires : goal.new-nets-requires
new-nets-requires g c = record { ports = record { inputs = refl; outputs = refl }; few_outputs = c.requires.few_outputs }

-- k is the lifetimes of the call, since the judge is generic in one
pub shrink_from-requires : goal.shrink_from-requires
shrink_from-requires g c = λ k.
    let within = IsWithin-same c.args.aim.metric c.args.net.now c.args.aim.bound in
    rw c.new-nets.ensures ((refl, tt), (c.requires.small, (c.requires.takes, (c.requires.small, (within, c.requires.limit)))))
