use Rattle.std.proofs.Common.{subst}
use Rattle.bdd_levels.specs.Levels.{TellsLevel}
use Rattle.graph_questions.proofs.LowPlaces.{apart_is}
use Rattle.graph_questions.proofs.low_places.apart_literal.Goals as goal

pub returns-clause-apart : goal.returns-clause-apart
returns-clause-apart c =
    let level = c.in_ok-level.level in
    apart_is c.output_literals.new.g c.args.both.now c.in_ok-over.over.items level.metric level.network c.args.places c.args.k c.index.result.now _
    c.in_ok-level.ensures.metric c.requires.count
    (subst (λ k. TellsLevel level.metric c.args.places k level.network) c.in_ok-level.ensures.k c.in_ok-level.ensures.tells)
    c.in_ok-over.ensures.outputs c.index.ensures
