use Rattle.std.proofs.Common.{length}
use Rattle.cdcl_core.proofs.implied.Implied.make_room.Given as goal

abbrev pub decreases-each : goal.decreases-each
decreases-each l = length l.self.places.items
