use Rattle.std.proofs.Common.{◌∙◌, length, sym, subst, ap}
use Rattle.lane_bits.specs.Patterns.{IsPatternSet}
use Rattle.lane_bits.proofs.Store.{length-vectors_in, set_formed}
use Rattle.lane_bits.proofs.patterns.Patterns.count.Goals as goal

pub returns-clause-value : goal.returns-clause-value
returns-clause-value c = sym (length-vectors_in c.self.inside.rows.items c.self.inside.count) ∙ ap (λ s. length s.vectors) c.self.view_is

pub returns-clause-formed : goal.returns-clause-formed
returns-clause-formed c = subst IsPatternSet c.self.view_is (set_formed c.self.inside.inputs c.self.inside.count c.self.inside.rows.items c.self.invariant)
