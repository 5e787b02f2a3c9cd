use Rattle.std.proofs.Common.{arith}
use Rattle.cnf_core.specs.LratParts.{scanner_at}
use Rattle.cnf_core.proofs.lrat_scanner.Scanner.with_digits.Goals as goal

pub returns-clause-lead : goal.returns-clause-lead
returns-clause-lead c =
    c.take_digits-digits.ensures.lead c.args.number.negative (scanner_at c.args.self c.args.draft.now) c.requires.calm c.requires.number (omega (arith, c.if-digits-eq0.false))
