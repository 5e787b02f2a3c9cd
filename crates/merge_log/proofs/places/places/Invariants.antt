use Rattle.std.proofs.Common.{◌≡◌}
use Rattle.semantics.specs.Net.{input_count}
use Rattle.merge_log.specs.Places.{place_of, IsPlaceList}
use Rattle.merge_log.proofs.places.places.Given as goal

abbrev pub invariant-loop-t : goal.invariant-loop-t
invariant-loop-t l = record {
  places : IsPlaceList (input_count l.net) l.net.tables l.t l.places.items;
  next : l.place ≡ place_of (input_count l.net) l.net.tables l.t;
}
