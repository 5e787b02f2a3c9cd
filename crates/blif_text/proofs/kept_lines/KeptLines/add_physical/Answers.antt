use Rattle.std.proofs.Common.{rules, ap, ◌∙◌}
use Rattle.std.proofs.lemmas.Result.{err_from_is_err_and}
use Rattle.blif_semantics.specs.Lines.{without_comment}
use Rattle.blif_text.specs.LogicalLines.{gone_on}
use Rattle.blif_text.proofs.Numbered.{passed_on}
use Rattle.blif_text.proofs.KeptSteps.{ended_told}
use Rattle.blif_text.proofs.kept_lines.KeptLines.add_physical.Goals as goal

pub returns-in_err-add-in-None-clause-err : goal.returns-in_err-add-in-None-clause-err
returns-in_err-add-in-None-clause-err c =
    let told = c.from_residual-in_err-add-in-None in
    passed_on _ _ _ (err_from_is_err_and told.result told.ensures.1)
    (ended_told c.args.self.now c.args.begun c.args.number (without_comment c.args.line.now) c.in_ok-gone_on-in-None.field-0 _ (search rules)
    (c.in_ok-gone_on-in-None.ensures ∙ ap (gone_on c.args.begun c.args.number) c.without_comment-line.ensures) c.in_err-add-in-None.ensures.err)
