use Rattle.merge_log.proofs.places.PlacedNet.new.Goals as goal

pub places-requires : goal.places-requires
places-requires c = record { variables = c.see_few.ensures.variables; clauses = c.see_few.ensures.tables }

pub invariant_of-result : goal.invariant_of-result
invariant_of-result c = record { goal_is = c.requires; places_are = c.in_ok-places.ensures; clauses = c.see_few.ensures.formula; few = c.see_few.ensures.tables }
