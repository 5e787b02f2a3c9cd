use Rattle.std.proofs.Common.{◌≡◌, ◌-◌, ◌+◌, ℕ, true, false, length, drop, sym, ◌∙◌, arith}
use Rattle.std.proofs.lemmas.List.{take_all, length-drop}
use Rattle.bundle_texts.proofs.CutTexts.{vector_here, long_enough, end_there, digits_there}
use Rattle.bundle_texts.proofs.pieces.vector_before.Goals as goal
use Rattle.bundle_texts.proofs.pieces.vector_before.Goals.{then-text-width-via-then-text-width, then-text-width-via-else-text-width+then-text-width-ne10}
use Rattle.bundle_texts.proofs.pieces.vector_before.Goals.{then-text-width-via-else-text-width+else-text-width-ne10+then-not-are_bit_digits}

pub returns-then-text-width : goal.returns-then-text-width
returns-then-text-width c = λ x rest h.
    let within = long_enough c.args.width c.args.text.now x rest h in
    let end = end_there c.args.width c.args.text.now x rest h in
    let digits = digits_there c.args.width c.args.text.now x rest h in
    elim c.then-text-width.branch [
      | then-text-width-via-then-text-width w ↦ omega (arith, within, w.if-text-width.true)
      | then-text-width-via-else-text-width+then-text-width-ne10 w ↦ w.if-text-width-ne10.true end
      | then-text-width-via-else-text-width+else-text-width-ne10+then-not-are_bit_digits w ↦ let bad : true ≡ false = sym digits ∙ sym w.are_bit_digits.ensures ∙ w.if-not-are_bit_digits.true in cc
    ]

pub returns : goal.returns
returns c =
    vector_here c.args.width c.args.text.now _ c.if-text-width.false c.if-text-width-ne10.false (sym c.are_bit_digits.ensures ∙ c.if-not-are_bit_digits.false)
    (take_all (length c.args.text.now - (c.args.width + 1)) (drop (c.args.width + 1) c.args.text.now) (omega (arith, length-drop {A = ℕ})))
