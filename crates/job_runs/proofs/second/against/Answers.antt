use Rattle.command_words.specs.Names.{names_of}
use Rattle.job_runs.proofs.TaskAnswers.{task_answer-no_second, TaskAnswer-of}
use Rattle.job_runs.proofs.second.against.Goals as goal

pub returns-in-Err-read_second : goal.returns-in-Err-read_second
returns-in-Err-read_second g c =
    task_answer-no_second c.args.job.task c.args.job.aim (names_of c.args.job.names)
    (g.F.Files.told c.read_second.new.files) (g.K.Sink.told c.args.say.now) c.in-Ok.ensures.ok c.in-Err-read_second.answer c.only-in-Err-read_second.result
    c.only-in-Err-read_second.ensures c.in-Err-read_second.ensures.err

pub returns : goal.returns
returns g c =
    TaskAnswer-of c.args.job.task c.args.job.aim (names_of c.args.job.names)
    (g.F.Files.told c.undertake.new.files) (g.K.Sink.told c.args.say.now) (g.K.Sink.told c.undertake.new.say) c.undertake.result c.in-Ok.ensures.ok c.in-Ok-read_second.ensures.ok
    c.undertake.ensures
