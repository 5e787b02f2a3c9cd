use Rattle.lane_nets.proofs.ChangedInputs.{kept_none}
use Rattle.lane_nets.proofs.changes.marks_at.Goals as goal

pub returns-else-q-gt0 : goal.returns-else-q-gt0
returns-else-q-gt0 c = λ s wides are held. kept_none s wides c.args.q
