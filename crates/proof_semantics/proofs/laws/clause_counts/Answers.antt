use Rattle.proof_semantics.proofs.Counts.{variable_count-small, length-net_clauses, length-goal_clauses}
use Rattle.proof_semantics.proofs.Bounds.{AreClausesOf-net, AreClausesOf-goal}
use Rattle.proof_semantics.proofs.laws.clause_counts.Goals as goal

pub returns : goal.returns
returns c = record { clauses = length-net_clauses; small = variable_count-small; goal = length-goal_clauses; variables = AreClausesOf-net; goal_variables = AreClausesOf-goal }
