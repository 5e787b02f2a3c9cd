-- by computation
use Rattle.std.proofs.Common.{refl}
use Rattle.quality_semantics.specs.Buses.{binary}
use Rattle.quality_semantics.specs.Quality.{word_quality, quality}
use Rattle.quality_semantics.specs.Joint.{joint_net}
use Rattle.proof_semantics.specs.NetClauses.{net_clauses, goal_clauses}
use Rattle.proof_semantics.proofs.examples.miters.Goals as goal

pub returns : goal.returns
unfolding binary word_quality quality joint_net net_clauses goal_clauses
returns c = record { of_wires = (refl, refl); of_adders = (refl, refl); of_signed_adders = (refl, refl) }
