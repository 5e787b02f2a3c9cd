use Rattle.literal_sums.proofs.Taking.{place_taken}
use Rattle.literal_sums.proofs.word.take_place.Goals as goal

pub returns-clause-ok : goal.returns-clause-ok
returns-clause-ok c = place_taken _ _ _ _ _ _ c.within-literal.ensures c.in_ok-sum.ensures.ok c.in_ok-take.ensures
