use Rattle.bdd_levels.proofs.Subtraction.{place_made}
use Rattle.bdd_levels.proofs.distances.subtract_place.Goals as goal

pub returns-clause-is : goal.returns-clause-is
returns-clause-is c =
    place_made _ _ _ _ _ _ _ _ _ _ c.in_ok-differs.ensures.ok c.in_ok-differs.ensures.signal c.in_ok-bit.ensures.ok c.in_ok-bit.ensures.signal c.in_ok-borrow.ensures.ok c.in_ok-borrow.ensures.signal
