-- by computation
use Rattle.std.proofs.Common.{refl}
use Rattle.proof_semantics.specs.NetClauses.{net_clauses, goal_clauses}
use Rattle.proof_semantics.proofs.examples.clauses.Goals as goal

pub returns : goal.returns
unfolding net_clauses goal_clauses
returns c = record { of_half_adder = refl; with_goal = refl; doubled_pin = refl; against_itself = refl; plane_0 = refl; constants = refl; counts = refl }
