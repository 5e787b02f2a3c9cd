use Rattle.literal_sums.proofs.Taking.{places_none, places_more}
use Rattle.literal_sums.proofs.word.take_places.Goals as goal

pub loop-place-init : goal.loop-place-init
loop-place-init c = places_none _ _ _ _ c.new-word.ensures.items

pub loop-place-preserved : goal.loop-place-preserved
loop-place-preserved c =
    places_more _ _ _ _ _ _ _ _ _ _ _ _ c.in_ok-push.ensures.items c.loop-place.invariant c.weight_of.ensures c.in_ok-literal.ensures.grows c.in_ok-literal.ensures.ok
