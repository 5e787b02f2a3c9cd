use Rattle.std.proofs.Common.{arith, sym}
use Rattle.command_words.specs.Words.{job_meaning}
use Rattle.job_runs.proofs.Runs.{on_files-says, named_is_no_usage}
use Rattle.job_runs.proofs.commands.carry_out.Goals as goal

pub returns-in_default-command-clause-says : goal.returns-in_default-command-clause-says
returns-in_default-command-clause-says g c =
    on_files-says (job_meaning c.in-Some.command) c.only-in_default-command.result c.on_files.result c.only-in_default-command.ensures
    (sym c.in-Some.ensures.job) (grind arith) (c.on_files.ensures (g.K.Sink.told c.args.say.now))

pub returns-in_default-command-clause-usage_touches_nothing : goal.returns-in_default-command-clause-usage_touches_nothing
returns-in_default-command-clause-usage_touches_nothing g c = λ usage.
    absurd (named_is_no_usage (job_meaning c.in-Some.command) c.only-in_default-command.result (sym c.in-Some.ensures.job) (returns-in_default-command-clause-says g c) usage)
