use Rattle.std.proofs.Common.{◌≡◌, length, take, ap, sym, ◌∙◌, arith}
use Rattle.std.proofs.lemmas.List.{length-take-le}
use Rattle.bundle_texts.specs.VectorLine.{LineValue}
use Rattle.bundle_texts.proofs.JudgedVectors.{end_test}
use Rattle.bundle_texts.proofs.vector_line.VectorLine.is_next.Goals as goal

pub returns-then-self-witness : goal.returns-then-self-witness
returns-then-self-witness c =
    let a = c.self.inside in
    let count : length (take a.filled a.bits) ≡ a.filled = length-take-le a.filled a.bits (omega (arith, c.self.invariant.0, c.self.invariant.1.0, c.self.invariant.1.1)) in
    end_test c.args.witness.now c.args.self.now c.args.byte (sym (ap (λ (v : LineValue). length v.begun) c.self.view_is) ∙ count ∙ c.if-self-witness.true)
