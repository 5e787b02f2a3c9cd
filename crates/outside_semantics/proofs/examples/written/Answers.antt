use Rattle.std.proofs.Common.{rules}
use Rattle.std.specs.FinMap.{gets}
use Rattle.outside_semantics.proofs.examples.written.Goals as goal

pub returns : goal.returns
returns c = record { twice = search (rules, gets); between = search (rules, gets); before = search (rules, gets); none = search (rules, gets) }
