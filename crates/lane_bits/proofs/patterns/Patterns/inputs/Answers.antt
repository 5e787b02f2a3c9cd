use Rattle.std.proofs.Common.{subst}
use Rattle.lane_bits.specs.Patterns.{IsPatternSet}
use Rattle.lane_bits.proofs.Store.{set_formed}
use Rattle.lane_bits.proofs.patterns.Patterns.inputs.Goals as goal

pub returns-clause-formed : goal.returns-clause-formed
returns-clause-formed c = subst IsPatternSet c.self.view_is (set_formed c.self.inside.inputs c.self.inside.count c.self.inside.rows.items c.self.invariant)
