use Rattle.std.proofs.Common.{◌≡◌, ◌∷◌, ap, map, ◌∙◌}
use Rattle.std.specs.Prelude.{decimal}
use Rattle.quality_semantics.specs.Joint.{numbered_name}
use Rattle.miter.specs.Copies.{placed}
use Rattle.miter.proofs.copies.copied_table.Goals as goal

pub returns : goal.returns
returns c =
    let f = placed c.args.inputs.now c.args.first in
    let name : c.in_ok-name.name ≡ numbered_name c.args.letter c.args.number = c.in_ok-name.ensures ∙ ap (λ n. c.args.letter ∷ decimal n) c.from.ensures in
    let pins : c.in_ok-pins.pins ≡ map f c.args.table.now.pins = c.in_ok-pins.ensures ∙ ap (map f) (c.as_slice.ensures ∙ c.pins.ensures.value) in
    let rows : c.in_ok-rows.rows ≡ c.args.table.now.rows = c.in_ok-rows.ensures ∙ c.rows.ensures.value in
    c.new.ensures ∙ (λ k. record { name = name k; pins = pins k; rows = rows k; plane = c.plane.ensures.value k })
