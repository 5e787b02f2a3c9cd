use Rattle.proof_semantics.proofs.LratRoundTrip.{round_trip_law}
use Rattle.proof_semantics.proofs.lrat_laws.round_trip.Goals as goal

pub returns : goal.returns
returns c = round_trip_law
