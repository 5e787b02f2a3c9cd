use Rattle.cdcl_core.proofs.Jumping.{running_jumped, running_decided, running_extended}
use Rattle.cdcl_core.proofs.laws.search_steps.Goals as goal

pub returns : goal.returns
returns c = record { jumped = running_jumped; decided = running_decided; extended = running_extended }
