use Rattle.std.proofs.Common.{◌≤◌, ap, arith}
use Rattle.std.proofs.lemmas.List.Elements.{All-more}
use Rattle.cdcl_core.proofs.LastOther.{after_level}
use Rattle.cdcl_core.proofs.trail.Trail.levels_until.Goals as goal

pub up-preserved : goal.up-preserved
up-preserved c = record {
  within = omega arith;
  before = All-more (λ s. s ≤ c.args.place) c.self.inside.starts.items c.up.level c.index.result.now (omega arith) c.up.invariant.before (omega arith);
}

pub returns-else-index-place-clause-after : goal.returns-else-index-place-clause-after
returns-else-index-place-clause-after c k low within =
    after_level c.self.inside.starts.items c.args.self.now.starts c.up.level k c.args.place c.index.result.now (ap (λ t. t.starts) c.self.view_is) c.requires.rising low within c.index.ensures
    c.if-index-place.false
