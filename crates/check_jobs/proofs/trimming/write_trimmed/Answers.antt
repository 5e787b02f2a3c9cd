use Rattle.std.proofs.Common.{sym, subst}
use Rattle.check_jobs.specs.Trimmed.{TrimmedAnswer}
use Rattle.check_jobs.proofs.TrimAnswers.{trimmed-written}
use Rattle.check_jobs.proofs.trimming.write_trimmed.Goals as goal

pub returns : goal.returns
returns g c =
    subst (TrimmedAnswer c.args.goal.now.clauses c.args.log.now c.args.output.now (g.F.Files.told c.args.files.now) (g.F.Files.told c.write_log.new.files)) (sym c.answer_of_writing.ensures)
    (trimmed-written c.args.goal.now.clauses c.args.log.now _ c.args.output.now _ _ c.write_log.result c.in-Ok.ensures.trimmed c.in-Ok.ensures.refutes c.write_log.ensures)
