use Rattle.trim_semantics.proofs.Again.{kept_law}
use Rattle.trim_semantics.proofs.trim_laws.kept_additions.Goals as goal

pub returns : goal.returns
returns c = kept_law
