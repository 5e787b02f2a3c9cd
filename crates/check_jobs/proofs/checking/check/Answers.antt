use Rattle.std.proofs.Common.{sym, subst}
use Rattle.job_answers.specs.OnFiles.{on_files}
use Rattle.check_jobs.specs.Answers.{CheckAnswer}
use Rattle.check_jobs.proofs.CheckAnswers.{check-no_net, check-no_names, check-judged_at}
use Rattle.check_jobs.proofs.checking.check.Goals as goal

pub returns-in-Err : goal.returns-in-Err
returns-in-Err g c said =
    check-no_net c.in-Err.answer c.in-Err.ensures.err

pub returns-in_default : goal.returns-in_default
returns-in_default g c said = check-no_names c.in-Ok.ensures.ok

pub returns : goal.returns
returns g c said =
    subst (CheckAnswer c.args.claim c.args.input.now c.args.stem.now (on_files (g.F.Files.told c.args.files.now) (g.F.Files.told c.check_bundle.new.files) said))
    (sym c.answer_of_check.ensures)
    (check-judged_at c.in-Ok-new.ensures c.in-Ok.ensures.ok.sound c.in-Ok.ensures.ok c.check_bundle.ensures.kept c.check_bundle.result c.check_bundle.ensures.verdict c.check_bundle.ensures.cause)
