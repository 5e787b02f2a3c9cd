use Rattle.std.proofs.Common.{bytes_eq, ap, ◌∙◌}
use Rattle.std.specs.Option.{is_some}
use Rattle.semantics.specs.Refusals.{has_name}
use Rattle.numbered_keys.proofs.Places.{placed}
use Rattle.blif_text.proofs.Places.{has_name-texts}
use Rattle.hier_parts.proofs.names.Names.contains.Goals as goal

pub returns : goal.returns
returns c =
    let name = c.args.name.now in
    c.contains_key.ensures ∙ ap is_some (c.places.ensures c.args.name) ∙ placed (λ k. bytes_eq name k.now) _ ∙ has_name-texts name _ ∙ ap (λ v. has_name v name) c.self.view_is
