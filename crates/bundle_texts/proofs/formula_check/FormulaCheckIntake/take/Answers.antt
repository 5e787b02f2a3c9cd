use Rattle.std.proofs.Common.{subst}
use Rattle.bundle_texts.specs.FormulaStanding.{StandsAt}
use Rattle.bundle_texts.proofs.FormulaChecks.{taken_next, taken_still}
use Rattle.bundle_texts.proofs.formula_check.FormulaCheckIntake.take.Goals as goal
use Rattle.bundle_texts.proofs.formula_check.FormulaCheckIntake.take.Goals.{then-self, else-self}

pub invariant_of-self : goal.invariant_of-self
invariant_of-self c =
    let a = c.self.inside in
    elim c.if-self.branch [
      | then-self w ↦
          taken_next a c.if-self.self-inside c.and-self-inside.result.bytes c.args.piece.now w.is_next-self-inside.new.rest w.is_next-self-inside.result w.self-inside-is c.and-self-inside.ensures
          (subst (λ b. StandsAt b a.formula.now a.text.bytes a.rest) w.if-self.true c.self.invariant) w.is_next-self-inside.ensures.answer w.is_next-self-inside.ensures.rest
      | else-self w ↦ taken_still a c.if-self.self-inside c.and-self-inside.result.bytes c.args.piece.now w.self-inside-is c.and-self-inside.ensures w.if-self.false c.self.invariant
    ]
