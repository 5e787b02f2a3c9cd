use Rattle.std.proofs.Common.{◌≡◌, [], OnOk, IfErr, Result, sym, subst}
use Rattle.std.proofs.lemmas.Result.{on_ok_weaker, IfErr-weaker}
use Rattle.semantics.specs.Net.{NetValue}
use Rattle.blif_semantics.specs.Reading.{Refusal}
use Rattle.blif_text.specs.LogicalLines.{after_begun}
use Rattle.blif_text.specs.KeptLines.{outcome, unless_wrong}
use Rattle.blif_text.specs.Refusals.{Tells}
use Rattle.blif_text.proofs.kept_lines.KeptLines.end.Goals as goal

pub returns-in-Some-clause-ok : goal.returns-in-Some-clause-ok
returns-in-Some-clause-ok c =
    subst (λ begun. OnOk c.add.result (outcome c.add.new.self [] ≡ outcome c.args.self.now (after_begun begun []))) (sym c.in-Some.is)
    (on_ok_weaker c.add.result (λ h. h []) c.add.ensures.ok)

pub returns-in-Some-clause-err : goal.returns-in-Some-clause-err
returns-in-Some-clause-err c =
    subst (λ begun. IfErr c.add.result (λ told. (answer : Result NetValue Refusal) → Tells told (unless_wrong (outcome c.args.self.now (after_begun begun [])).wrong answer))) (sym c.in-Some.is)
    (IfErr-weaker c.add.result _ _ (λ told h. h []) c.add.ensures.err)
