use Rattle.std.proofs.Common.{◌<◌, length, bytes_eq, ap, ◌∙◌, arith}
use Rattle.blif_text.specs.Names.{place_of}
use Rattle.blif_text.proofs.Places.{place_of-texts, within_list}
use Rattle.blif_text.proofs.names.Names.number.Goals as goal

pub overflow_cast-result : goal.overflow_cast-result
overflow_cast-result c =
    let below : c.in_ok-at.at.now < length c.self.inside.names =
    within_list (λ k. bytes_eq c.args.name.now k.now) c.self.inside.names c.in_ok-at.at.now (c.in_ok-at.ensures.value ∙ c.places.ensures c.args.name) in
    omega (arith, below, c.self.invariant)

pub returns-in_err-at : goal.returns-in_err-at
returns-in_err-at c =
    let name = c.args.name.now in
    c.from_residual.ensures ∙ c.in_err-at.ensures.value ∙ c.places.ensures c.args.name ∙ place_of-texts name _ ∙ ap (λ v. place_of v name) c.self.view_is

pub returns : goal.returns
returns c =
    let name = c.args.name.now in
    c.in_ok-at.ensures.value ∙ c.places.ensures c.args.name ∙ place_of-texts name _ ∙ ap (λ v. place_of v name) c.self.view_is
