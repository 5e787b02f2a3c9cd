use Rattle.net_tidy.proofs.Marking.{tidied_already}
use Rattle.net_tidy.proofs.tidy.tidy.Goals as goal

pub returns-else-has_raised : goal.returns-else-has_raised
returns-else-has_raised c = tidied_already c.args.net c.in_ok-flags.flags c.has_raised.result c.in_ok-flags.ensures c.has_raised.ensures c.if-has_raised.false
