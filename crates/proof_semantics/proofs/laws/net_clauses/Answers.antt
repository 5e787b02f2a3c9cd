use Rattle.proof_semantics.proofs.NetValues.{net_clause_law}
use Rattle.proof_semantics.proofs.laws.net_clauses.Goals as goal

pub returns : goal.returns
returns c = net_clause_law
