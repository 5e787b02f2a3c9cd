use Rattle.std.proofs.Common.{ap, ◌∙◌}
use Rattle.std.specs.List.{list_any}
use Rattle.std.specs.Option.{is_some}
use Rattle.numbered_keys.proofs.Places.{placed}
use Rattle.numbered_keys.proofs.keys.NumberedKeys.contains.Goals as goal

pub returns : goal.returns
returns g c =
    c.contains_key.ensures ∙ ap is_some (c.self.invariant c.args.key.now) ∙ placed (g.K.PartialEq.eq c.args.key.now) c.self.inside.keys.items
    ∙ ap (list_any (g.K.PartialEq.eq c.args.key.now)) c.self.view_is
