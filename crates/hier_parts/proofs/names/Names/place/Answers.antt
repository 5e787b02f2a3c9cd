use Rattle.std.proofs.Common.{ap, ◌∙◌}
use Rattle.blif_text.specs.Names.{place_of}
use Rattle.blif_text.proofs.Places.{place_of-texts}
use Rattle.hier_parts.proofs.names.Names.place.Goals as goal

pub returns : goal.returns
returns c =
    let name = c.args.name.now in
    c.copied.ensures ∙ c.get.ensures.value ∙ c.places.ensures c.args.name ∙ place_of-texts name _ ∙ ap (λ v. place_of v name) c.self.view_is
