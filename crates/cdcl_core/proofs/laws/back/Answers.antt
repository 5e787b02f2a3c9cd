use Rattle.cdcl_core.proofs.Back.{back-learned, back-cut}
use Rattle.cdcl_core.proofs.laws.back.Goals as goal

pub returns : goal.returns
returns c = record { learned = back-learned; cut = back-cut }
