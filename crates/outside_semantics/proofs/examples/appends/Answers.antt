use Rattle.std.proofs.Common.{rules}
use Rattle.std.specs.FinMap.{gets}
use Rattle.outside_semantics.proofs.examples.appends.Goals as goal

pub returns : goal.returns
returns c = record { behind = search (rules, gets); not_made = search (rules, gets); others = search (rules, gets); closed = search (rules, gets) }
