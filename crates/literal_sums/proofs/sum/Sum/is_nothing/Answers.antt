use Rattle.std.proofs.Common.{arith}
use Rattle.std.proofs.lemmas.Grind.{common_steps}
use Rattle.literal_sums.proofs.Counting.{nothing}
use Rattle.literal_sums.proofs.sum.Sum.is_nothing.Goals as goal

pub returns-clause-nothing : goal.returns-clause-nothing
returns-clause-nothing c = λ yes. nothing c.args.self.now (grind (arith, common_steps))
