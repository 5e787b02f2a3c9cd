use Rattle.cdcl_core.proofs.NewClauses.{learned-new}
use Rattle.cdcl_core.proofs.laws.new_clauses.Goals as goal

pub returns : goal.returns
returns c = learned-new
