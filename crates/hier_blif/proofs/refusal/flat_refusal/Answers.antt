use Rattle.hier_blif.proofs.FlatTold.{flat_told}
use Rattle.hier_blif.proofs.refusal.flat_refusal.Goals as goal

pub returns-in_default : goal.returns-in_default
returns-in_default c = λ answer tells. flat_told c.args.refusal answer c.in_default.not-OutOfMemory tells
