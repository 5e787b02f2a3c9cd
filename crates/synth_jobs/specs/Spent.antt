-- What is told of a spent query.
use Rattle.std.specs.Prelude.{Option, option_map}
use Rattle.proof_semantics.specs.Queries.{SpentValue}
use Rattle.level_answers.specs.declared.query.Spent as spent
use Rattle.level_answers.specs.Exceeds.{spent_value}

abbrev pub told_query : Option spent.Spent → Option SpentValue
told_query = option_map spent_value
