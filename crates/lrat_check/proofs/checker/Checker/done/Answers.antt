use Rattle.std.proofs.Common.{◌≡◌, true, Some, [], ap, subst, sym, ◌∙◌}
use Rattle.std.specs.Prelude.{◌↔◌}
use Rattle.proof_semantics.specs.Logs.{last_added}
use Rattle.lrat_check.proofs.Standing.{stands_done, stands_refuted}
use Rattle.lrat_check.proofs.checker.Checker.done.Goals as goal

pub returns-clause-ended : goal.returns-clause-ended
returns-clause-ended c formula log h =
    subst (λ b. (b ≡ true) ↔ (last_added log ≡ Some [])) (sym (ap (λ k. k.done) c.self.view_is)) (stands_done formula log c.args.self.now h)

pub returns-clause-refuted : goal.returns-clause-refuted
returns-clause-refuted c formula log h e = stands_refuted formula log c.args.self.now h (sym (ap (λ k. k.done) c.self.view_is) ∙ e)
