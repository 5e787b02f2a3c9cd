use Rattle.std.proofs.Common.{sym, ap, ◌∙◌}
use Rattle.bundle_texts.specs.VectorLine.{is_next}
use Rattle.bundle.specs.Shown.{AskedValue}
use Rattle.bundle.proofs.VectorsSoFar.{byte_wrong, byte_right}
use Rattle.bundle.proofs.vectors_check.takes.Goals as goal

pub returns-then-not-is_next-clause-ok : goal.returns-then-not-is_next-clause-ok
returns-then-not-is_next-clause-ok c text stands =
    let witness = c.witness.ensures.value ∙ ap (λ (a : AskedValue). a.witness) c.asked.ensures in
    byte_wrong c.args.broken.now c.args.line.now text c.args.byte (sym (ap (λ w. is_next w c.args.line.now c.args.byte) witness) ∙ sym c.is_next.ensures ∙ c.if-not-is_next.true) stands

pub returns-clause-ok : goal.returns-clause-ok
returns-clause-ok c text stands =
    let witness = c.witness.ensures.value ∙ ap (λ (a : AskedValue). a.witness) c.asked.ensures in
    byte_right c.args.broken.now c.take_vector.new.broken c.args.line.now c.take.new.self text c.args.byte c.in_ok-take_vector.ensures.asked
    (sym (ap (λ w. is_next w c.args.line.now c.args.byte) witness) ∙ sym c.is_next.ensures ∙ c.if-not-is_next.false) c.take.ensures c.in_ok-take_vector.ensures.ok stands
