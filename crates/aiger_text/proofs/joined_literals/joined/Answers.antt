use Rattle.std.proofs.Common.{arith}
use Rattle.aiger_text.proofs.JoinedLiterals.{joined-more}
use Rattle.aiger_text.proofs.joined_literals.joined.Goals as goal

pub returns-else-count-eq1 : goal.returns-else-count-eq1
returns-else-count-eq1 c = joined-more c.args.next c.args.literals.now (omega arith)
