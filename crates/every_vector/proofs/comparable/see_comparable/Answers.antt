use Rattle.std.proofs.Common.{subst}
use Rattle.semantics.specs.Net.{IsSound}
use Rattle.quality_semantics.proofs.Joint.{comparable}
use Rattle.every_vector.proofs.comparable.see_comparable.Goals as goal

pub returns : goal.returns
returns c =
    comparable c.args.nets.now.exact c.args.nets.now.approx (subst IsSound c.exact.ensures.value c.see_sound.ensures.sound)
    (subst IsSound c.approx.ensures.value c.see_sound-2.ensures.sound) c.exact.ensures.candidate.ports
